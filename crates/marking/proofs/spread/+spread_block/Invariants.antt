use Rattle.std.proofs.Common.{◌≡◌, ◌-◌, ◌≤◌, Bool, ◌||◌, List, length}
use Rattle.marking.specs.Spread.{Reads, Passed}
use Rattle.marking.proofs.spread.+spread_block.Given as goal

abbrev pub decreases-spread_block : goal.decreases-spread_block
decreases-spread_block g l = l.block.to - l.block.from

-- what a pass over the constructs that are left does completes the pass over the block
abbrev pub invariant-loop-construct : goal.invariant-loop-construct
invariant-loop-construct g l =
    let Pass = Passed g.M.Mark.joined g.M.Mark.unmarked g.M.Mark.rank in
    let rest = l.construct-iterator in
    (rest.to ≡ l.fn.block.to) × (l.fn.block.from ≤ rest.from) × Reads rest (length l.initial.marks) ×
    ((vs : List g.row.M.Denot) (r : Bool) → Pass rest l.around l.marks vs r → Pass l.fn.block l.around l.initial.marks vs (l.rose || r))
