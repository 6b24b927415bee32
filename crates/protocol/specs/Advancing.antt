-- Advancing a run under a watcher's eyes.
use Rattle.std.specs.Prelude.{ℕ, zero, suc, ◌+◌, cond, List, length, Some, None, Option}
use Rattle.onepath.specs.declared.steps.Step.{Step}
use Rattle.run.specs.Machine.{State, is_over, next}
use Rattle.run.specs.Values.{Values}
use Rattle.protocol.specs.Watching.{Watching}
use Rattle.protocol.specs.declared.answers.Ending.{Ending}
use Rattle.protocol.specs.declared.answers.Ending.TheVariants.{Paused, Ended, Broken, Stopped}

-- what an advance did: the steps taken, how it ended, and the run and the watcher's meaning after it
pub record Walk (M : Type 0) : Type 0 where
  pub taken : ℕ
  pub ending : Ending
  pub run : State
  pub watcher : M

-- the ending of a run that is over
abbrev pub over_by : Option ℕ → Ending
over_by None = Ended
over_by (Some l) = Broken l

abbrev pub halted : {M : Type 0} → Ending → State → M → Walk M
halted e s m = record { taken = 0; ending = e; run = s; watcher = m }

-- the same walk, with n steps before it
abbrev pub later : {M : Type 0} → ℕ → Walk M → Walk M
later n r = record { taken = n + r.taken; ending = r.ending; run = r.run; watcher = r.watcher }

-- An advance by k steps. A run that is over ends it; after k steps it is paused; a place that the watcher declines
-- stops it; otherwise the step is taken.
abbrev pub advanced : {M : Type 0} → Values → List Step → Watching M → ℕ → State → M → Walk M
advanced v ts w zero s m = cond (is_over (length ts) s) (halted (over_by s.track.broken) s m) (halted Paused s m)
advanced v ts w (suc k) s m =
    cond (is_over (length ts) s) (halted (over_by s.track.broken) s m)
    (cond (w.accepts m s.track.place) (later 1 (advanced v ts w k (next v ts s) (w.becomes m s.track.place))) (halted Stopped s m))
