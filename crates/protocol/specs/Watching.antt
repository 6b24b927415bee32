-- A watcher, by what it does to meanings.
use Rattle.std.specs.Prelude.{ℕ, Bool}
use Rattle.watch.specs.declared.watchers.Watcher.{Ghosts}

pub record Watching (M : Type 0) : Type 0 where
  -- does it accept the place
  pub accepts : M → ℕ → Bool
  -- what it then means
  pub becomes : M → ℕ → M

-- the watcher that a type of watchers is
abbrev pub watch_of : {W : Type 0} → (g : Ghosts W) → Watching g.Meaning
watch_of g = record { accepts = g.accepts; becomes = g.becomes }
