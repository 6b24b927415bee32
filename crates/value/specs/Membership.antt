-- What the operations on sets say of each digit.
use Rattle.std.specs.Prelude.{◌≡◌, ℕ, ◌-◌, ◌<◌, ◌≤◌, Bool, true, not, ◌&&◌, ◌||◌, List, [], ◌∷◌}
use Rattle.std.specs.List.{range_with_len}
use Rattle.value.specs.Sets.{has, union_of, common, in_just_one, outside, without, in_neither, within}
use Rattle.value.specs.Smallest.{smallest_of}

-- just one of the two
abbrev pub one_of : Bool → Bool → Bool
one_of p q = (p && not q) || (not p && q)

-- none of the digits is in the set
abbrev pub none_of : ℕ → List ℕ → Bool
none_of s [] = true
none_of s (d ∷ ds) = not (has s d) && none_of s ds

-- no digit from 1 on and below this one is in the set
abbrev pub none_below : ℕ → ℕ → Bool
none_below s d = none_of s (range_with_len 1 (d - 1))

abbrev pub Sets-stand : Type 0
Sets-stand =
    (a b d : ℕ) → a < 512 → b < 512 → 1 ≤ d → d ≤ 9
    → (has (union_of a b) d ≡ (has a d || has b d))
    × (has (without a b) d ≡ (has a d && not (has b d)))
    × (has (common a b) d ≡ (has a d && has b d))
    × (has (in_just_one a b) d ≡ one_of (has a d) (has b d))
    × (has (outside a) d ≡ not (has a d))
    × (has (in_neither a b) d ≡ (not (has a d) && not (has b d)))
    × (has (smallest_of a) d ≡ (has a d && none_below a d))

-- each digit of the one set is in the other
abbrev pub Part : ℕ → ℕ → Type 0
Part a b = (d : ℕ) → 1 ≤ d → d ≤ 9 → has a d ≡ true → has b d ≡ true

-- the test whether a set lies within another tells whether it is a part of it, and sets with the same digits are equal
abbrev pub Comparisons-stand : Type 0
Comparisons-stand =
    (a b : ℕ) → a < 512 → b < 512
    → (within a b ≡ true → Part a b)
    × (Part a b → within a b ≡ true)
    × (Part a b → Part b a → a ≡ b)
