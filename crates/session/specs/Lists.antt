-- What a round promises of one call record, and of a list of them.
use Rattle.std.specs.Prelude.{◌≡◌, ℕ, List, ◌++◌, length, drop, None, Ok, Err, Option, Result, nat_le}
use Rattle.sheet.specs.Checks.{unless}
use Rattle.onepath.specs.declared.steps.Step.{Step}
use Rattle.value.specs.declared.kinds.Value.{Ghosts}
use Rattle.watch.specs.declared.watchers.Watcher.{Ghosts as WatcherGhosts}
use Rattle.run.specs.Machine.{state_of}
use Rattle.protocol.specs.Calls.{path_score, after, answer}
use Rattle.protocol.specs.Plain.{tells, ends}
use Rattle.protocol.specs.Promise.{answers_of}
use Rattle.protocol.specs.Watching.{watch_of}
use Rattle.protocol.specs.declared.answers.Answer.{Answer}
use Rattle.protocol.specs.declared.answers.Answer.TheVariants.{Refused}
use Rattle.protocol.specs.declared.calls.Call.{Call}
use Rattle.protocol.specs.declared.refusals.Refusal.{Refusal}
use Rattle.round.specs.Rounds.{terms_of, stand_of}
use Rattle.session.specs.declared.lists.Board.{Board}
use Rattle.session.specs.declared.faults.PlayFault.{PlayFault}
use Rattle.session.specs.declared.faults.PlayFault.TheVariants.{Answers}
use Rattle.round.specs.declared.records.Record.{Record}

-- the answer record of a call's own answer
abbrev pub recorded : {A : Type 0} → (A → Answer) → Result A Refusal → Answer
recorded f (Ok a) = f a
recorded f (Err e) = Refused e

-- a round with what is lent to it
pub record Desk (V W : Type 0) : Type 0 where
  pub rec : Record
  pub setter : List V
  pub working : List V
  pub watcher : W

abbrev pub desk_of : {V W : Type 0} → Record → List V → List V → W → Desk V W
desk_of r setter working watcher = record { rec = r; setter = setter; working = working; watcher = watcher }

-- a record with the board that its round is lent
abbrev pub desk_at : {V W : Type 0} → Record → Board V W → Desk V W
desk_at r b = desk_of r b.setter.now b.working.now b.watcher.now

-- The same loans, whatever they hold. Each call says so: no type says what holds of a value at two moments.
abbrev pub SameBoard : {V W : Type 0} → Board V W → Board V W → Type 0
SameBoard b c = (c.setter.ghost_name ≡ b.setter.ghost_name) × (c.working.ghost_name ≡ b.working.ghost_name) × (c.watcher.ghost_name ≡ b.watcher.ghost_name)

-- The answer to one call and how the round then stands are as defined, and the terms stay.
pub record Hears {V W : Type 0} (g : Ghosts V) (h : WatcherGhosts W) (table : List Step) (before after' : Desk V W) (c : Call) (a : Answer) : Type 0 where
  pub says :
      a ≡ answer (terms_of g before.rec table) (watch_of h) (stand_of g h before.rec before.setter before.working before.watcher)
      (path_score (terms_of g before.rec table) (state_of g before.rec.track before.working)) c
  pub stands :
      stand_of g h after'.rec after'.setter after'.working after'.watcher
      ≡ after (terms_of g before.rec table) (watch_of h) (stand_of g h before.rec before.setter before.working before.watcher) c
  pub terms : terms_of g after'.rec table ≡ terms_of g before.rec table

-- too few answer places for n calls
abbrev pub list_fault : ℕ → ℕ → Option PlayFault
list_fault n m = unless (nat_le n m) Answers None

-- The answers to all the calls, and how the round stands after them; the spare answer places are as they were. A list
-- with too few answer places is not begun.
pub record HearsAll {V W : Type 0} (g : Ghosts V) (h : WatcherGhosts W) (table : List Step) (before after' : Desk V W) (cs : List Call) (xs ys : List Answer) : Type 0 where
  pub says :
      ys ≡ answers_of (tells (terms_of g before.rec table) (watch_of h) (stand_of g h before.rec before.setter before.working before.watcher) cs) ++ drop (length cs) xs
  pub stands :
      stand_of g h after'.rec after'.setter after'.working after'.watcher
      ≡ ends (terms_of g before.rec table) (watch_of h) (stand_of g h before.rec before.setter before.working before.watcher) cs
  pub terms : terms_of g after'.rec table ≡ terms_of g before.rec table

abbrev pub Lists : {V W : Type 0} → Ghosts V → WatcherGhosts W → List Step → Desk V W → Desk V W → List Call → List Answer → List Answer → Result (Unit {0}) PlayFault → Type 0
Lists g h table before after' cs xs ys (Ok _) = HearsAll g h table before after' cs xs ys
Lists g h table before after' cs xs ys (Err f) = (after' ≡ before) × (ys ≡ xs)
