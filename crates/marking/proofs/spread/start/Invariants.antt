use Rattle.std.proofs.Common.{ℕ, ◌<◌, get_or}
use Rattle.marking.specs.Rules.{AtLeast, Owns}
use Rattle.marking.specs.Spread.{marking, Below}
use Rattle.marking.proofs.spread.start.Given as goal

-- the cells so far have their own marks, and no mark is above what all of them ask for
abbrev pub invariant-loop-cell : goal.invariant-loop-cell
invariant-loop-cell g l =
    let join = g.M.Mark.joined in
    let none = g.M.Mark.unmarked in
    let own = g.M.Mark.owned in
    ((k : ℕ) → k < l.cell-index → AtLeast join (marking none l.marks (get_or l.marked k 0)) (own (get_or l.marked k 0))) ×
    ((m : ℕ → g.row.M.Denot) → Owns join own m l.marked → Below join none l.marks m)
