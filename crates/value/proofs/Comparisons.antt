-- A set lies within another where each of its digits is in the other; sets with the same digits are equal.
use Rattle.std.proofs.Common.{◌≡◌, ℕ, ◌+◌, ◌-◌, ◌<◌, true, eqb, sym, refl, ap, ◌∙◌, subst, arith}
use Rattle.std.specs.Int.{bit_at}
use Rattle.std.specs.Int.Bits.{and_lt}
use Rattle.std.proofs.lemmas.Nat.Bits.{bit_at-lt, same_from_bits_below}
use Rattle.std.proofs.lemmas.Bool.{false≢true, eqb-true, eq-eqb, and_parts, and_from}
use Rattle.value.specs.Sets.{has, common}
use Rattle.value.specs.Membership.{Part, Comparisons-stand}
use Rattle.value.proofs.Bitwise.{common_has}
use Rattle.value.proofs.Cases.{each_bits}

-- bits that are 1 together are the same
same_bit : (x y : ℕ) → x < 2 → y < 2 → (eqb x 1 ≡ true → eqb y 1 ≡ true) → (eqb y 1 ≡ true → eqb x 1 ≡ true) → x ≡ y
same_bit =
    each_bits (λ x y. (eqb x 1 ≡ true → eqb y 1 ≡ true) → (eqb y 1 ≡ true → eqb x 1 ≡ true) → x ≡ y) (λ f g. refl)
    (λ f g. absurd (false≢true (g refl))) (λ f g. absurd (false≢true (f refl))) (λ f g. refl)

same_digits : (a b : ℕ) → a < 512 → b < 512 → Part a b → Part b a → a ≡ b
same_digits a b ha hb f g =
    same_from_bits_below 9 a b ha hb
    (λ k h.
    let e : k + 1 - 1 ≡ k = omega arith in
    let i = k + 1 - 1 in
    subst (λ m. bit_at a m ≡ bit_at b m) e
    (same_bit (bit_at a i) (bit_at b i) (bit_at-lt a i) (bit_at-lt b i) (f (k + 1) (omega arith) (omega arith)) (g (k + 1) (omega arith) (omega arith))))

pub compares : Comparisons-stand
compares a b ha hb = (
  λ e d lo hi h. (and_parts (has a d) (has b d) (sym (common_has a b d) ∙ ap (λ x. has x d) (eqb-true (common a b) a e) ∙ h)).1,
  λ f. eq-eqb (common a b) a (same_digits (common a b) a (and_lt 9 a b ha hb) ha
      (λ d lo hi h. (and_parts (has a d) (has b d) (sym (common_has a b d) ∙ h)).0)
      (λ d lo hi h. common_has a b d ∙ and_from (has a d) (has b d) h (f d lo hi h))),
  same_digits a b ha hb,
)
