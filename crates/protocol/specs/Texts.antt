-- The words that answers are printed in.
use Rattle.std.specs.Prelude.{ℕ, List, ◌++◌, codes, decimal}
use Rattle.sheet.specs.Words.{refusal_text}
use Rattle.protocol.specs.Numbers.{number_of, place_of}
use Rattle.protocol.specs.declared.answers.Answer.{Answer}
use Rattle.protocol.specs.declared.answers.Answer.TheVariants.{Done, Left, Walked, Shown, Scored, Refused}
use Rattle.protocol.specs.declared.answers.Ending.{Ending}
use Rattle.protocol.specs.declared.answers.Ending.TheVariants.{Paused, Ended, Broken, Stopped}
use Rattle.protocol.specs.declared.answers.Score.{Score}
use Rattle.protocol.specs.declared.answers.Score.TheVariants.{Right, Wrong, Void}

abbrev pub score_text : Score → List ℕ
score_text Right = codes "right"
score_text Wrong = codes "wrong"
score_text Void = codes "void"

abbrev pub ending_text : Ending → List ℕ
ending_text Paused = codes "paused"
ending_text Ended = codes "ended"
ending_text (Broken line) = codes "broken at line " ++ decimal line
ending_text Stopped = codes "stopped"

-- so many steps, and how they ended
abbrev pub walk_text : ℕ → Ending → List ℕ
walk_text steps ending = decimal steps ++ (codes " steps, " ++ ending_text ending)

abbrev pub answer_text : Answer → List ℕ
answer_text Done = codes "done"
answer_text (Left tries) = decimal tries ++ codes " tries left"
answer_text (Walked r) = walk_text r.steps r.ending
answer_text (Shown code) = decimal code
answer_text (Scored score) = score_text score
answer_text (Refused f) = refusal_text (number_of f) (place_of f)
