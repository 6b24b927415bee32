-- A number as a set of cells, a bit a cell.
use Rattle.std.specs.Prelude.{◌≡◌, ℕ, ◌/◌, ◌%◌, ◌^◌, cond, nat_lt}

-- the set has the cell
abbrev pub Has : ℕ → ℕ → Type 0
Has members cell = members / 2 ^ cell % 2 ≡ 1

-- the cell alone; cells from 64 on are in no set
abbrev pub only : ℕ → ℕ
only cell = cond (nat_lt cell 64) (2 ^ cell) 0
