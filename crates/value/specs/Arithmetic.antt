-- What the operations make of numbers of 32 bits.
use Rattle.std.specs.Prelude.{ℕ, ◌+◌, ◌-◌, ◌*◌, ◌/◌, ◌%◌, ◌^◌, cond, ◌==◌, bit_and, bit_or, nat_lt}
use Rattle.value.specs.Truth.{flag}

-- rounded down; 0 for the divisor 0
abbrev pub quotient_of : ℕ → ℕ → ℕ
quotient_of a b = cond (b == 0) 0 (a / b)

-- by the operation's number: sum, difference and product wrap around, quotient, less than, equal, bitwise and, bitwise or
abbrev pub numbers : ℕ → ℕ → ℕ → ℕ
numbers op a b =
    cond (op == 0) ((a + b) % 2 ^ 32)
    (cond (op == 1) ((a + (2 ^ 32 - b)) % 2 ^ 32)
    (cond (op == 2) ((a * b) % 2 ^ 32)
    (cond (op == 3) (quotient_of a b)
    (cond (op == 4) (flag (nat_lt a b))
    (cond (op == 5) (flag (a == b))
    (cond (op == 6) (bit_and a b)
    (cond (op == 7) (bit_or a b) 0)))))))
