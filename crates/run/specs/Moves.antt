-- Whose each step is; a track after the close of a covered loop.
use Rattle.std.specs.Prelude.{ℕ, ◌-◌, Bool, ◌&&◌}
use Rattle.onepath.specs.declared.steps.Step.{Step}
use Rattle.onepath.specs.declared.steps.Step.TheVariants.{Work, Literal, Ask, Turn, Setout, Narrow, Again, Close, Branch, Jump, Enter, Test}
use Rattle.run.specs.Machine.{flag_at, guard_at, closing}
use Rattle.run.specs.declared.track.Track.{Track}

-- whose step it is: a simple line's, a covered construct's or an open one's
pub data Owner : Type 0 where
  of_line : Owner
  of_covered : Owner
  of_open : Owner

abbrev pub owner_of : Step → Owner
owner_of (Work k t o a b) = of_line
owner_of (Literal k t n) = of_line
owner_of (Ask k x) = of_covered
owner_of (Turn k) = of_covered
owner_of (Setout k) = of_covered
owner_of (Narrow k x) = of_covered
owner_of (Again k n j) = of_covered
owner_of (Close k x l) = of_covered
owner_of (Branch x j) = of_open
owner_of (Jump j) = of_open
owner_of (Enter d) = of_open
owner_of (Test d x n j l) = of_open

abbrev pub closed : Track → ℕ → Bool → ℕ → Track
closed t k b l =
    record { place = t.place; registers = t.registers; latch = closing (guard_at t.registers (k - 1) && (flag_at t.registers k && b)) l t.latch; broken = t.broken }
