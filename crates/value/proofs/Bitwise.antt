-- What the operations on sets do to each digit, by its bit.
use Rattle.std.proofs.Common.{◌≡◌, ℕ, ◌+◌, ◌-◌, ◌%◌, ◌<◌, ◌≤◌, max, min, Bool, true, false, not, ◌&&◌, ◌||◌, eqb, refl, ap, ◌∙◌, mod-eq_of_lt, arith}
use Rattle.std.specs.Int.{bit_at}
use Rattle.std.specs.Int.Bits.{bit_and, bit_or, bit_xor}
use Rattle.std.proofs.lemmas.Nat.{and_mask, or_lt}
use lib.Bits.{xor_add_and}
use Rattle.std.proofs.lemmas.Nat.Bits.{bit_at-lt, bit_at_and, bit_at_or, bit_at_xor}
use Rattle.value.specs.Sets.{has, union_of, common, in_just_one, outside}
use Rattle.value.specs.Membership.{one_of, Sets-stand}
use Rattle.value.proofs.Cases.{each_bits, each_digit}
use Rattle.value.proofs.Table.{smallest_has}

-- what an operation makes of the bits at a place it says of a digit
module _ (f m : ℕ → ℕ → ℕ) (g : Bool → Bool → Bool)
    (at : (a b i : ℕ) → bit_at (f a b) i ≡ m (bit_at a i) (bit_at b i))
    (bits : (x y : ℕ) → x < 2 → y < 2 → eqb (m x y) 1 ≡ g (eqb x 1) (eqb y 1)) where
  by_bit : (a b d : ℕ) → has (f a b) d ≡ g (has a d) (has b d)
  by_bit a b d = let k = d - 1 in ap (λ x. eqb x 1) (at a b k) ∙ bits (bit_at a k) (bit_at b k) (bit_at-lt a k) (bit_at-lt b k)

union_has : (a b d : ℕ) → has (union_of a b) d ≡ (has a d || has b d)
union_has = by_bit bit_or max ◌||◌ bit_at_or (each_bits (λ x y. eqb (max x y) 1 ≡ (eqb x 1 || eqb y 1)) refl refl refl refl)

pub common_has : (a b d : ℕ) → has (common a b) d ≡ (has a d && has b d)
common_has = by_bit bit_and min ◌&&◌ bit_at_and (each_bits (λ x y. eqb (min x y) 1 ≡ (eqb x 1 && eqb y 1)) refl refl refl refl)

one_has : (a b d : ℕ) → has (in_just_one a b) d ≡ one_of (has a d) (has b d)
one_has = by_bit bit_xor (λ x y. (x + y) % 2) one_of bit_at_xor (each_bits (λ x y. eqb ((x + y) % 2) 1 ≡ one_of (eqb x 1) (eqb y 1)) refl refl refl refl)

-- all nine digits are in 511
all_has : (d : ℕ) → 1 ≤ d → d ≤ 9 → has 511 d ≡ true
all_has = each_digit (λ d. has 511 d ≡ true) refl refl refl refl refl refl refl refl refl

-- what is outside a set is in just one of the set and all nine
outside_xor : (a : ℕ) → a < 512 → outside a ≡ in_just_one a 511
outside_xor a h =
    let m : bit_and a 511 ≡ a = and_mask a 9 ∙ mod-eq_of_lt h in
    let s = xor_add_and a 511 in
    omega (arith, m, s)

one_of_all : (p : Bool) → one_of p true ≡ not p
one_of_all true = refl
one_of_all false = refl

outside_has : (a d : ℕ) → a < 512 → 1 ≤ d → d ≤ 9 → has (outside a) d ≡ not (has a d)
outside_has a d h lo hi =
    ap (λ (x : ℕ). has x d) (outside_xor a h) ∙ one_has a 511 d ∙ ap (one_of (has a d)) (all_has d lo hi) ∙ one_of_all (has a d)

not_or : (p q : Bool) → not (p || q) ≡ (not p && not q)
not_or true q = refl
not_or false q = refl

pub stands : Sets-stand
stands a b d ha hb lo hi = (
  union_has a b d,
  common_has a (outside b) d ∙ ap (λ (x : Bool). has a d && x) (outside_has b d hb lo hi),
  common_has a b d,
  one_has a b d,
  outside_has a d ha lo hi,
  outside_has (union_of a b) d (or_lt 9 a b ha hb) lo hi ∙ ap not (union_has a b d) ∙ not_or (has a d) (has b d),
  smallest_has a d ha lo hi,
)
