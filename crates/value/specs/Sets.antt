-- Sets of the digits 1 to 9, as numbers below 512: the digit n counts 2^(n-1).
use Rattle.std.specs.Prelude.{ℕ, ◌-◌, ◌/◌, ◌%◌, ◌^◌, Bool, ◌==◌, bit_and, bit_or, bit_xor}

-- the digit is in the set
abbrev pub has : ℕ → ℕ → Bool
has s d = s / 2 ^ (d - 1) % 2 == 1

-- the digit alone
abbrev pub only : ℕ → ℕ
only d = 2 ^ (d - 1)

abbrev pub union_of : ℕ → ℕ → ℕ
union_of a b = bit_or a b

abbrev pub common : ℕ → ℕ → ℕ
common a b = bit_and a b

abbrev pub in_just_one : ℕ → ℕ → ℕ
in_just_one a b = bit_xor a b

-- the digits that are not in the set; 511 has all nine
abbrev pub outside : ℕ → ℕ
outside s = 511 - s

abbrev pub without : ℕ → ℕ → ℕ
without a b = common a (outside b)

abbrev pub in_neither : ℕ → ℕ → ℕ
in_neither a b = outside (union_of a b)

-- the set lies within the other
abbrev pub within : ℕ → ℕ → Bool
within a b = common a b == a
