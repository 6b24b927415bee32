use Rattle.std.proofs.Common.{◌≡◌, ◌+◌, ◌-◌, ◌*◌, ◌≤◌, map}
use Rattle.sheet.specs.Blocks.{HasCode}
use Rattle.sheet.specs.Code.{Code}
use Rattle.run.specs.Branching.{branching, passes}
use Rattle.run.specs.Values.{kind_of}
use Rattle.run.proofs.branching.+run_block_run_loop.Given as goal

abbrev pub decreases-run_block : goal.decreases-run_block
decreases-run_block g l = 2 * (l.block.to - l.block.from)

abbrev pub decreases-run_loop : goal.decreases-run_loop
decreases-run_loop g l = 2 * (l.body.to - l.body.from) + 1

-- the constructs that are left bring the cells where all of them do
abbrev pub invariant-run_block-loop-construct : goal.invariant-run_block-loop-construct
invariant-run_block-loop-construct g l =
    let v = kind_of g.V.Value in
    let f = g.V.Value.meaning in
    let rest = l.construct-iterator in
    (rest.to ≡ l.fn.block.to) × (l.fn.block.from ≤ rest.from) ×
    ((c : Code) → HasCode l.fn.block c →
    (r : Code) × HasCode rest r × (branching v r rest.from (map f l.cells) ≡ branching v c l.fn.block.from (map f l.initial.cells)))

-- the passes that are left bring the cells where all the passes do
abbrev pub invariant-run_loop-loop : goal.invariant-run_loop-loop
invariant-run_loop-loop g l =
    let v = kind_of g.V.Value in
    let f = g.V.Value.meaning in
    (p : Code) → HasCode l.body p →
    passes v l.cell l.line (branching v p l.body.from) (l.bound - l.counter) (map f l.cells) ≡ passes v l.cell l.line (branching v p l.body.from) l.bound (map f l.initial.cells)
