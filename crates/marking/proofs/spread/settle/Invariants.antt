use Rattle.std.proofs.Common.{ℕ, ◌+◌, ◌-◌, ◌*◌, ◌≤◌, length}
use Rattle.sheet.specs.Blocks.{HasCode}
use Rattle.sheet.specs.Code.{Code}
use Rattle.marking.specs.Rules.{Owns, Rules}
use Rattle.marking.specs.Spread.{marking, Below, total}
use Rattle.marking.proofs.spread.settle.Given as goal

-- the own marks are there, no mark is above a marking that meets the rules, and each pass so far raised some mark
abbrev pub invariant-loop-passes : goal.invariant-loop-passes
invariant-loop-passes g l =
    let join = g.M.Mark.joined in
    let none = g.M.Mark.unmarked in
    let own = g.M.Mark.owned in
    Owns join own (marking none l.marks) l.marked ×
    ((c : Code) → HasCode l.whole c → (m : ℕ → g.row.M.Denot) → Rules join own m l.marked c → Below join none l.marks m) ×
    (l.passes ≤ total g.M.Mark.rank l.marks + 1)

-- what the ranks lack
abbrev pub decreases-loop-passes : goal.decreases-loop-passes
decreases-loop-passes g l = g.M.Mark.height * length l.initial.marks - total g.M.Mark.rank l.marks
