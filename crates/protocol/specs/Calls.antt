-- What a round refuses, what it does when it accepts, and what it answers.
use Rattle.std.specs.Prelude.{◌≡◌, ℕ, ◌-◌, Bool, true, false, not, length, Some, None, Ok, Err, Option, Result, ◌==◌, nat_lt}
use Rattle.sheet.specs.Checks.{unless}
use Rattle.run.specs.Judging.{path_verdict}
use Rattle.run.specs.Machine.{State, is_over, fresh}
use Rattle.run.specs.Values.{cell_at, stated}
use Rattle.run.specs.declared.verdicts.Verdict.{Verdict}
use Rattle.run.specs.declared.verdicts.Verdict.TheVariants.{Right as RightVerdict, Wrong as WrongVerdict, Void as VoidVerdict}
use Rattle.protocol.specs.Advancing.{Walk, advanced}
use Rattle.protocol.specs.Stands.{Stand}
use Rattle.protocol.specs.Terms.{Terms}
use Rattle.protocol.specs.Watching.{Watching}
use Rattle.protocol.specs.declared.answers.Advanced.{Advanced}
use Rattle.protocol.specs.declared.answers.Answer.{Answer}
use Rattle.protocol.specs.declared.answers.Answer.TheVariants.{Done, Left, Walked, Shown, Scored, Refused}
use Rattle.protocol.specs.declared.answers.Score.{Score}
use Rattle.protocol.specs.declared.answers.Score.TheVariants.{Right, Wrong, Void}
use Rattle.protocol.specs.declared.calls.Call.{Call}
use Rattle.protocol.specs.declared.calls.Call.TheVariants.{Put, Start, Advance, Look, Withdraw, Score as AskScore}
use Rattle.protocol.specs.declared.calls.Phase.{Phase}
use Rattle.protocol.specs.declared.calls.Phase.TheVariants.{Laying, InPlay}
use Rattle.protocol.specs.declared.refusals.Refusal.{Refusal}
use Rattle.protocol.specs.declared.refusals.Refusal.TheVariants.{SetterCells, WorkingCells, NoCell, Marked, Covered, Phase as WrongPhase, NoTries, Early}

abbrev pub is_laying : Phase → Bool
is_laying Laying = true
is_laying InPlay = false

abbrev pub is_in_play : Phase → Bool
is_in_play Laying = false
is_in_play InPlay = true

-- Why each call is refused in its phase, if it is: first by how many setter's cells (n) and working cells (m) are lent,
-- then by what it asks.
abbrev pub put_fault : Terms → ℕ → ℕ → Option Refusal
put_fault t n x = unless (n == t.cells) SetterCells (unless (nat_lt x t.cells) (NoCell x) (unless (not (t.marked x)) (Marked x) None))

abbrev pub start_fault : Terms → ℕ → ℕ → ℕ → Option Refusal
start_fault t tries n m =
    unless (n == t.cells) SetterCells (unless (m == t.cells) WorkingCells (unless (nat_lt 0 tries) NoTries None))

abbrev pub advance_fault : Terms → ℕ → Option Refusal
advance_fault t m = unless (m == t.cells) WorkingCells None

abbrev pub look_fault : Terms → ℕ → ℕ → Option Refusal
look_fault t m x = unless (m == t.cells) WorkingCells (unless (nat_lt x t.cells) (NoCell x) (unless (not (t.covered x)) (Covered x) None))

abbrev pub score_fault : Terms → ℕ → State → Option Refusal
score_fault t m s = unless (m == t.cells) WorkingCells (unless (is_over (length t.steps) s) Early None)

-- The phase comes first.
abbrev pub in_laying : Phase → Option Refusal → Option Refusal
in_laying h o = unless (is_laying h) WrongPhase o

abbrev pub in_play : Phase → Option Refusal → Option Refusal
in_play h o = unless (is_in_play h) WrongPhase o

abbrev pub refusal : {M : Type 0} → Terms → Stand M → Call → Option Refusal
refusal t s (Put x n) = in_laying s.phase (put_fault t (length s.setter) x)
refusal t s Start = in_laying s.phase (start_fault t s.tries (length s.setter) (length s.run.cells))
refusal t s (Advance k) = in_play s.phase (advance_fault t (length s.run.cells))
refusal t s (Look x) = in_play s.phase (look_fault t (length s.run.cells) x)
refusal t s Withdraw = in_play s.phase None
refusal t s AskScore = in_play s.phase (score_fault t (length s.run.cells) s.run)

-- a verdict, as it is told
abbrev pub score_of : Verdict → Score
score_of RightVerdict = Right
score_of WrongVerdict = Wrong
score_of (VoidVerdict l) = Void

-- what the run of the one path comes to
abbrev pub path_score : Terms → State → Score
path_score t s = score_of (path_verdict t.values t.verdict s)

-- the walk of an advance from here
abbrev pub walk_from : {M : Type 0} → Terms → Watching M → ℕ → Stand M → Walk M
walk_from t w k s = advanced t.values t.steps w k s.run s.watcher

abbrev pub told_of : {M : Type 0} → Walk M → Advanced
told_of r = record { steps = r.taken; ending = r.ending }

-- how the round stands after a call that it accepts
abbrev pub accepted : {M : Type 0} → Terms → Watching M → Stand M → Call → Stand M
accepted t w s (Put x n) =
    record { phase = s.phase; tries = s.tries; setter = stated t.values x n s.setter; run = s.run; watcher = s.watcher }
accepted t w s Start = record { phase = InPlay; tries = s.tries - 1; setter = s.setter; run = fresh s.setter; watcher = s.watcher }
accepted t w s (Advance k) =
    let r = walk_from t w k s in
    record { phase = s.phase; tries = s.tries; setter = s.setter; run = r.run; watcher = r.watcher }
accepted t w s (Look x) = s
accepted t w s Withdraw = record { phase = Laying; tries = s.tries; setter = s.setter; run = s.run; watcher = s.watcher }
accepted t w s AskScore = record { phase = Laying; tries = s.tries; setter = s.setter; run = s.run; watcher = s.watcher }

-- what it answers to a call that it accepts, where a score says r
abbrev pub says : {M : Type 0} → Terms → Watching M → Stand M → Score → Call → Answer
says t w s r (Put x n) = Done
says t w s r Start = Left (s.tries - 1)
says t w s r (Advance k) = Walked (told_of (walk_from t w k s))
says t w s r (Look x) = Shown (cell_at t.values s.run.cells x)
says t w s r Withdraw = Done
says t w s r AskScore = Scored r

-- a refusal moves nothing
abbrev pub moved : {A : Type 0} → Option Refusal → A → A → A
moved None after before = after
moved (Some f) after before = before

abbrev pub Still : {A : Type 0} → Option Refusal → A → A → Type 0
Still None before after = Unit {0}
Still (Some f) before after = after ≡ before

-- the answer of a call of its own, and in a list
abbrev pub answered : {A : Type 0} → Option Refusal → A → Result A Refusal
answered None a = Ok a
answered (Some f) a = Err f

abbrev pub reported : Option Refusal → Answer → Answer
reported None a = a
reported (Some f) a = Refused f

-- how the round stands after a call, and what it answers
abbrev pub after : {M : Type 0} → Terms → Watching M → Stand M → Call → Stand M
after t w s c = moved (refusal t s c) (accepted t w s c) s

abbrev pub answer : {M : Type 0} → Terms → Watching M → Stand M → Score → Call → Answer
answer t w s r c = reported (refusal t s c) (says t w s r c)
