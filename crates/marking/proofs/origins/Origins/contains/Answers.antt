use Rattle.std.proofs.Common.{◌≡◌, ℕ, ◌*◌, ◌^◌, bit_and, mul-zero, zero-mul, one-mul, sym, ap, ◌∙◌, inl, inr, arith}
use Rattle.std.specs.Prelude.{nat_lt}
use Rattle.std.specs.Int.{bit_at}
use Rattle.std.specs.Int.Bits.{and_zero_r}
use Rattle.std.proofs.lemmas.Nat.{pow_pos}
use Rattle.std.proofs.lemmas.Bool.{cond_both, cond-true, cases_lt, cases_eq, lt-ltb, eqb-true, eqb-false, not-true, not-false}
use Rattle.std.proofs.lemmas.Nat.Bits.{bit_at-lt, bit_at_above, and_pow}
use Rattle.marking.specs.Members.{only}
use Rattle.marking.proofs.origins.Origins.contains.Goals as goal

-- what a set has in common with the cell alone
common : (s k : ℕ) → bit_and s (only k) ≡ bit_at s k * only k
common s k = cond_both (nat_lt k 64) (2 ^ k) 0 (λ x. bit_and s x ≡ bit_at s k * x) (λ _. and_pow s k) (λ _. and_zero_r s ∙ sym (mul-zero (bit_at s k)))

pub returns-clause-yes : goal.returns-clause-yes
returns-clause-yes c = λ e.
    let s = c.args.self.now.members in
    let k = c.args.cell in
    let low = bit_at-lt s k in
    elim (cases_eq (bit_at s k) 1) [
      | inl h ↦ h
      | inr n ↦ absurd (eqb-false _ _ (not-true _ e) (ap (bit_and s) c.bit_of.ensures ∙ common s k ∙ ap (λ b. b * only k) (let z : bit_at s k ≡ 0 = omega arith in z) ∙ zero-mul (only k)))
    ]

pub returns-clause-no : goal.returns-clause-no
returns-clause-no c = λ e h.
    let s = c.args.self.now in
    let k = c.args.cell in
    let none : only k ≡ 0 = sym (ap (bit_and s.members) c.bit_of.ensures ∙ common s.members k ∙ ap (λ b. b * only k) h ∙ one-mul (only k)) ∙ eqb-true _ _ (not-false _ e) in
    elim (cases_lt k 64) [
      | inl l ↦ let p = pow_pos k in let alone = cond-true (nat_lt k 64) (2 ^ k) 0 (lt-ltb k 64 l) in absurd (omega (arith, none, alone))
      | inr m ↦ absurd (omega (arith, h, bit_at_above s.members 64 k s.fits m))
    ]
