-- The lines that are printed of a sheet.
use Rattle.std.specs.Prelude.{ℕ, ◌+◌, ◌/◌, ◌%◌, ◌^◌, Bool, List, [], ◌∷◌, ◌++◌, Some, Option, map, filter, codes, decimal, ◌==◌}
use Rattle.std.specs.Fmt.{◌++?◌}
use Rattle.std.specs.List.{enumerate_from, range_with_len}
use Rattle.sheet.specs.Words.{refusal_text}
use Rattle.marking.specs.declared.origins.Origins.{Origins}
use Rattle.onepath.specs.Names.{name_of}
use Rattle.onepath.specs.declared.steps.Step.{Step}

abbrev pub refusal_line : ℕ → ℕ → List ℕ
refusal_line number place = refusal_text number place ++ codes "\n"

-- each item after a space
abbrev pub spaced : {A : Type 0} → (A → List ℕ) → List A → List ℕ
spaced words [] = []
spaced words (x ∷ xs) = codes " " ++ (words x ++ spaced words xs)

-- the same of what items print, where each says what it prints
abbrev pub spaced_output : {A : Type 0} → (A → Option (List ℕ)) → List A → Option (List ℕ)
spaced_output output [] = Some []
spaced_output output (x ∷ xs) = Some (codes " ") ++? (output x ++? spaced_output output xs)

-- the cells whose mark is yes
abbrev pub covered_cells : List Bool → List ℕ
covered_cells marks = map (λ c. c.0) (filter (λ c. c.1) (enumerate_from 0 marks))

-- a line that names the covered cells, and one that names the steps
abbrev pub path_text : List Bool → List Step → List ℕ
path_text marks steps = codes "covered" ++ (spaced decimal (covered_cells marks) ++ (codes "\nsteps" ++ (spaced name_of steps ++ codes "\n")))

-- the cells of a set
abbrev pub member_cells : ℕ → List ℕ
member_cells members = filter (λ cell. members / 2 ^ cell % 2 == 1) (range_with_len 0 64)

abbrev pub origin_line : ℕ → Origins → List ℕ
origin_line cell s = codes "cell " ++ (decimal cell ++ (codes ":" ++ (spaced decimal (member_cells s.members) ++ codes "\n")))

-- a line for each cell, from i on
abbrev pub origin_lines : ℕ → List Origins → List ℕ
origin_lines i [] = []
origin_lines i (s ∷ ss) = origin_line i s ++ origin_lines (i + 1) ss
