-- How a round stands between two calls, by the meanings of its cells and its watcher.
use Rattle.std.specs.Prelude.{ℕ, List}
use Rattle.run.specs.Machine.{State}
use Rattle.protocol.specs.declared.calls.Phase.{Phase}

pub record Stand (M : Type 0) : Type 0 where
  pub phase : Phase
  -- the tries left
  pub tries : ℕ
  -- the setter's cells
  pub setter : List ℕ
  -- the run, with the working cells
  pub run : State
  pub watcher : M
