-- The laws of union, and how it counts members.
use Rattle.std.specs.Prelude.{◌≡◌, ℕ, ◌/◌, ◌%◌, ◌^◌, ◌<◌, ◌≢◌, ◌⊎◌, bit_or, count_ones}
use Rattle.std.proofs.Common.{sym, ◌∙◌, ap, inl, inr, arith, lit<}
use mathlib.Core.HLevel.{is_prop→PathP}
use Rattle.std.proofs.Math.Bridge.{le_prop}
use Rattle.std.proofs.Math.Arith.{bin_ind}
use Rattle.std.specs.Int.Bits.{or_step}
use Rattle.std.proofs.lemmas.Nat.{or_shr, ones-le, zero_from_ones}
use Rattle.std.proofs.lemmas.Nat.Bits.{bit_at_or, same_from_bits}
use Rattle.std.specs.Int.Count.{ones_step}
use Rattle.std.proofs.lemmas.Bool.{cases_eq, cases_order}
use Rattle.marking.specs.declared.origins.Origins.{Origins}

-- two sets with the same members are the same set
pub same_set : (a b : Origins) → a.members ≡ b.members → a ≡ b
same_set a b e = λ i. record { members = e i; fits = is_prop→PathP (λ j. e j < 2 ^ 64) (λ j. le_prop) a.fits b.fits i }

pub or_assoc : (a b c : ℕ) → bit_or (bit_or a b) c ≡ bit_or a (bit_or b c)
or_assoc a b c = same_from_bits (bit_or (bit_or a b) c) (bit_or a (bit_or b c)) (λ i. simp bit_at_or (omega arith))

by_halves : (a b : ℕ) → a / 2 ≡ b / 2 → a % 2 ≡ b % 2 → a ≡ b
by_halves a b hi lo = omega arith

-- a union is its left part, or has more members
abbrev Grows : ℕ → ℕ → Type 0
Grows n b = (bit_or n b ≡ n) ⊎ (count_ones n < count_ones (bit_or n b))

grows_step : (n b : ℕ) → Grows (n / 2) (b / 2) → Grows n b
grows_step n b (inl e) =
    let s = or_step n b in
    let o₁ = ones_step n in
    let o₂ = ones_step (bit_or n b) in
    let h : bit_or n b / 2 ≡ n / 2 = or_shr n b 1 ∙ e in
    let o : count_ones (bit_or n b / 2) ≡ count_ones (n / 2) = ap count_ones h in
    elim (cases_order (n % 2) (bit_or n b % 2)) [
      | inl i ↦ inl (by_halves (bit_or n b) n h (sym i))
      | inr w ↦ inr (omega (arith, s, h))
    ]
grows_step n b (inr l) =
    let s = or_step n b in
    let o₁ = ones_step n in
    let o₂ = ones_step (bit_or n b) in
    let o : count_ones (bit_or n b / 2) ≡ count_ones (bit_or (n / 2) (b / 2)) = ap count_ones (or_shr n b 1) in
    inr (omega arith)

grows : (a b : ℕ) → Grows a b
grows =
    bin_ind (λ (n : ℕ). (b : ℕ) → Grows n b)
    (λ b. let z = ones-le 0 0 (lit< tt) in elim (cases_eq (count_ones b) 0) [ inl e ↦ inl (zero_from_ones b e) | inr n ↦ inr (omega arith) ])
    (λ n ih b. grows_step n b (ih (b / 2)))

pub ones_rise : (a b : ℕ) → bit_or a b ≢ a → count_ones a < count_ones (bit_or a b)
ones_rise a b ne = elim (grows a b) [ inl e ↦ absurd (ne e) | inr l ↦ l ]
