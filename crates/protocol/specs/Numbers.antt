-- The numbers of refusals and answers.
use Rattle.std.specs.Prelude.{ℕ}
use Rattle.protocol.specs.declared.answers.Advanced.{Advanced}
use Rattle.protocol.specs.declared.answers.Answer.{Answer}
use Rattle.protocol.specs.declared.answers.Answer.TheVariants.{Done, Left, Walked, Shown, Scored, Refused}
use Rattle.protocol.specs.declared.answers.Ending.{Ending}
use Rattle.protocol.specs.declared.answers.Ending.TheVariants.{Paused, Ended, Broken, Stopped}
use Rattle.protocol.specs.declared.answers.Score.{Score}
use Rattle.protocol.specs.declared.answers.Score.TheVariants.{Right, Wrong, Void}
use Rattle.protocol.specs.declared.refusals.Refusal.{Refusal}
use Rattle.protocol.specs.declared.refusals.Refusal.TheVariants.{SetterCells, WorkingCells, NoCell, Marked, Covered, Phase, NoTries, Early}

abbrev pub number_of : Refusal → ℕ
number_of SetterCells = 8
number_of WorkingCells = 8
number_of (NoCell x) = 10
number_of (Marked x) = 11
number_of (Covered x) = 11
number_of Phase = 12
number_of NoTries = 13
number_of Early = 14

abbrev pub place_of : Refusal → ℕ
place_of SetterCells = 1
place_of WorkingCells = 2
place_of (NoCell x) = x
place_of (Marked x) = x
place_of (Covered x) = x
place_of Phase = 0
place_of NoTries = 0
place_of Early = 0

abbrev pub ending_number : Ending → ℕ
ending_number Paused = 0
ending_number Ended = 1
ending_number (Broken l) = 2
ending_number Stopped = 3

abbrev pub ending_line : Ending → ℕ
ending_line Paused = 0
ending_line Ended = 0
ending_line (Broken l) = l
ending_line Stopped = 0

abbrev pub score_number : Score → ℕ
score_number Wrong = 0
score_number Right = 1
score_number Void = 2

abbrev pub walk_numbers : Advanced → ℕ × ℕ × ℕ
walk_numbers r = (r.steps, ending_number r.ending, ending_line r.ending)

-- 0 if the call was accepted
abbrev pub refusal_of : Answer → ℕ
refusal_of Done = 0
refusal_of (Left n) = 0
refusal_of (Walked r) = 0
refusal_of (Shown n) = 0
refusal_of (Scored s) = 0
refusal_of (Refused f) = number_of f

-- the three numbers of an answer, 0 where it tells fewer
abbrev pub numbers_of : Answer → ℕ × ℕ × ℕ
numbers_of Done = (0, 0, 0)
numbers_of (Left n) = (n, 0, 0)
numbers_of (Walked r) = walk_numbers r
numbers_of (Shown n) = (n, 0, 0)
numbers_of (Scored s) = (score_number s, 0, 0)
numbers_of (Refused f) = (place_of f, 0, 0)
