-- What the operations make of sets of digits.
use Rattle.std.specs.Prelude.{ℕ, cond, ◌==◌}
use Rattle.value.specs.Sets.{union_of, common, in_just_one, without, in_neither, within}
use Rattle.value.specs.Smallest.{smallest_of}
use Rattle.value.specs.Truth.{flag}

-- by the operation's number
abbrev pub candidates : ℕ → ℕ → ℕ → ℕ
candidates op a b =
    cond (op == 0) (union_of a b)
    (cond (op == 1) (without a b)
    (cond (op == 2) (common a b)
    (cond (op == 3) (in_just_one a b)
    (cond (op == 4) (flag (within a b))
    (cond (op == 5) (flag (a == b))
    (cond (op == 6) (in_neither a b)
    (cond (op == 7) (smallest_of a) 0)))))))
