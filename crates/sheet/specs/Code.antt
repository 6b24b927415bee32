-- A sheet's lines as structured code.
use Rattle.std.specs.Prelude.{ℕ, ◌+◌, ◌-◌, ◌^◌, ◌<◌, ◌≤◌}

-- Each line or construct is followed by the rest of its block.
pub data Code : Type 0 where
  stop : Code
  -- target cell, operation, cell a, cell b
  work : ℕ → ℕ → ℕ → ℕ → Code → Code
  -- target cell, number
  literal : ℕ → ℕ → Code → Code
  -- condition cell, first block, second block
  choose : ℕ → Code → Code → Code → Code
  -- condition cell, bound, block
  repeat : ℕ → ℕ → Code → Code → Code

-- the number of lines
abbrev pub size_of : Code → ℕ
size_of stop = 0
size_of (work t o a b r) = 1 + size_of r
size_of (literal t n r) = 1 + size_of r
size_of (choose c p q r) = 3 + size_of p + size_of q + size_of r
size_of (repeat c n p r) = 2 + size_of p + size_of r

-- The code keeps the limits of a sheet with `cells` cells, and its constructs nest at most `deep` deep.
abbrev pub Keeps : ℕ → ℕ → Code → Type 0
Keeps cells deep stop = Unit {0}
Keeps cells deep (work t o a b r) = (t < cells) × (o ≤ 7) × (a < cells) × (b < cells) × Keeps cells deep r
Keeps cells deep (literal t n r) = (t < cells) × (n < 2 ^ 32) × Keeps cells deep r
Keeps cells deep (choose c p q r) = (c < cells) × (1 ≤ deep) × Keeps cells (deep - 1) p × Keeps cells (deep - 1) q × Keeps cells deep r
Keeps cells deep (repeat c n p r) = (c < cells) × (1 ≤ n) × (n ≤ 255) × (1 ≤ deep) × Keeps cells (deep - 1) p × Keeps cells deep r
