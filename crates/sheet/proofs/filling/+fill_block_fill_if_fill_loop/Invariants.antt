use Rattle.std.proofs.Common.{◌≡◌, ℕ, ◌+◌, ◌-◌, ◌*◌, ◌≤◌, List, length}
use Rattle.sheet.specs.Code.{Code}
use Rattle.sheet.specs.Filling.{Begins, FilledFrom}
use Rattle.sheet.specs.declared.lines.Line.{Line}
use Rattle.sheet.proofs.filling.+fill_block_fill_if_fill_loop.Given as goal

abbrev pub decreases-fill_block : goal.decreases-fill_block
decreases-fill_block l = 2 * (length l.lines.now - l.from) + 1

abbrev pub decreases-fill_if : goal.decreases-fill_if
decreases-fill_if l = 2 * (length l.lines.now - l.from)

abbrev pub decreases-fill_loop : goal.decreases-fill_loop
decreases-fill_loop l = 2 * (length l.lines.now - l.from)

-- what is filled in of the lines that are left completes the block
abbrev pub invariant-fill_block-loop-i : goal.invariant-fill_block-loop-i
invariant-fill_block-loop-i l =
    (l.from ≤ l.i) × (l.i ≤ length l.lines) × (length l.table ≡ length l.initial.table) × ((c : Code) × Begins l.lines l.i c) ×
    ((vs : List Line) (r : ℕ) → FilledFrom l.lines l.i l.table vs r → FilledFrom l.lines l.from l.initial.table vs r)

abbrev pub decreases-fill_block-loop-i : goal.decreases-fill_block-loop-i
decreases-fill_block-loop-i l = length l.lines - l.i
