-- Yes and no as numbers.
use Rattle.std.specs.Prelude.{ℕ, Bool, cond, not, ◌==◌}

-- a number is true unless it is 0
abbrev pub nonzero : ℕ → Bool
nonzero n = not (n == 0)

-- 1 for yes and 0 for no; as a set of digits, the digit 1 alone or none
abbrev pub flag : Bool → ℕ
flag b = cond b 1 0
