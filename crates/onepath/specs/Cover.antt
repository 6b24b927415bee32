-- Which constructs are covered, and what stands around the lines inside them.
use Rattle.std.specs.Prelude.{ℕ, zero, suc, ◌+◌, Bool, true, false, List, slice_index_or}

-- The marks say which cells are covered; a cell past them is not. An if is covered when its cell is.
abbrev pub covered_in : List Bool → ℕ → Bool
covered_in marks x = slice_index_or marks x false

-- A loop is covered when its cell is, and also inside a covered construct, where the level is not 0.
abbrev pub loop_covered : (ℕ → Bool) → ℕ → ℕ → Bool
loop_covered covered zero x = covered x
loop_covered covered (suc k) x = true

-- The level of the blocks of a construct at level k; it is the own level of a covered construct.
abbrev pub level_in : Bool → ℕ → ℕ
level_in true k = k + 1
level_in false k = k

-- how many open loops stand around a loop's block, where d stand around the loop
abbrev pub loops_in : Bool → ℕ → ℕ
loops_in true d = d
loops_in false d = d + 1
