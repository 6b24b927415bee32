use Rattle.std.proofs.Common.{◌≡◌, ℕ, ◌<◌, false, ◌||◌, length, get_or, drop}
use Rattle.protocol.specs.Terms.{is_in}
use Rattle.round.proofs.secrets.marked_table.Given as goal

-- the cells in the table, and those still in the list, are those of the list
abbrev pub invariant-loop-cell : goal.invariant-loop-cell
invariant-loop-cell l =
    (length l.table ≡ 64) ×
    ((x : ℕ) → x < 64 → (get_or l.table x false || is_in (drop l.cell-index l.list) x) ≡ is_in l.list x)
