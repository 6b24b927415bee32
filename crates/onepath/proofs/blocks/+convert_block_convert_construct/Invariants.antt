use Rattle.std.proofs.Common.{◌≡◌, ℕ, ◌+◌, ◌-◌, ◌*◌, ◌≤◌, List, length}
use Rattle.sheet.specs.Blocks.{lines_in}
use Rattle.onepath.specs.Cover.{covered_in}
use Rattle.onepath.specs.Holds.{Converted}
use Rattle.onepath.specs.declared.steps.Step.{Step}
use Rattle.onepath.proofs.blocks.+convert_block_convert_construct.Given as goal

abbrev pub decreases-convert_block : goal.decreases-convert_block
decreases-convert_block l = 2 * (l.block.to - l.block.from) + 1

abbrev pub decreases-convert_construct : goal.decreases-convert_construct
decreases-convert_construct l = 2 * lines_in l.construct

-- converting the constructs that are left completes the block
abbrev pub invariant-convert_block-loop-construct : goal.invariant-convert_block-loop-construct
invariant-convert_block-loop-construct l =
    let rest = l.construct-iterator in
    (rest.to ≡ l.fn.block.to) × (l.fn.block.from ≤ rest.from) × (l.place + 2 * (rest.to - rest.from) ≤ length l.steps) ×
    ((us : List Step) (r : ℕ) → Converted (covered_in l.covered) rest l.around.level l.around.loops l.steps us l.place r →
    Converted (covered_in l.covered) l.fn.block l.around.level l.around.loops l.initial.steps us l.at r)
