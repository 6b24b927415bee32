use Rattle.std.proofs.Common.{◌≡◌, ℕ, ◌<◌}
use Rattle.marking.specs.Spread.{marking}
use Rattle.marking.proofs.spread.clear.Given as goal

abbrev pub invariant-loop-mark : goal.invariant-loop-mark
invariant-loop-mark g l = (k : ℕ) → k < l.mark-index → marking g.M.Mark.unmarked l.marks k ≡ g.M.Mark.unmarked
