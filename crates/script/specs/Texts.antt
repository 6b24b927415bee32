-- The lines that are printed of a script.
use Rattle.std.specs.Prelude.{ℕ, Bool, true, false, List, [], ◌∷◌, ◌++◌, map, codes, if◌then◌else◌}
use Rattle.std.specs.List.{zip}
use Rattle.std.specs.Str.{bytes_eq}
use Rattle.protocol.specs.Texts.{answer_text}
use Rattle.protocol.specs.declared.answers.Answer.{Answer}

-- the calls, each with what is told of it
abbrev pub call_lines : List (List ℕ) → List (List ℕ) → List ℕ
call_lines [] tells = []
call_lines (c ∷ cs) [] = []
call_lines (c ∷ cs) (t ∷ ts) = (c ++ (codes ": " ++ (t ++ codes "\n"))) ++ call_lines cs ts

-- what two tell: once where it is alike, else the first's and the second's
abbrev pub both_text : List ℕ → List ℕ → List ℕ
both_text first second = if bytes_eq first second then first else first ++ (codes " | " ++ second)

abbrev pub cards_text : Bool → List ℕ
cards_text true = codes "cards alike\n"
cards_text false = codes "cards differ\n"

-- the lines of a round: each call with its answer, and the watcher
abbrev pub round_text : List (List ℕ) → List Answer → List ℕ → List ℕ
round_text calls answers watched = call_lines calls (map answer_text answers) ++ (watched ++ codes "\n")

-- what two rounds answer to a call
abbrev pub answers_text : Answer × Answer → List ℕ
answers_text p = both_text (answer_text p.0) (answer_text p.1)

-- the same lines of two rounds
abbrev pub pair_text : List (List ℕ) → List Answer → List ℕ → List Answer → List ℕ → List ℕ
pair_text calls first first_watched second second_watched =
    call_lines calls (map answers_text (zip first second)) ++ (both_text first_watched second_watched ++ codes "\n")
