-- The bytes of one line: what the rules of its kind say of them.
use Rattle.std.proofs.Common.{◌≡◌, ℕ, ◌+◌, ◌*◌, ◌^◌, ◌<◌, ◌≤◌, Bool, true, false, List, [], ◌∷◌, Some, None, Option, refl, ap, ◌∙◌, arith}
use Rattle.std.proofs.lemmas.Bool.{eqb-true, ltb-true, leb-true}
use Rattle.sheet.specs.Layout.{work_bytes, literal_bytes, other_bytes}
use Rattle.sheet.specs.Kinds.{byte_of}
use Rattle.sheet.specs.Checks.{byte_at, unless, or_else, rules_of, obeys, bytes_fault}
use Rattle.sheet.specs.Results.{Bytes}
use Rattle.sheet.specs.declared.faults.ReadFault.{ReadFault}
use Rattle.sheet.specs.declared.kinds.LineKind.{LineKind}
use Rattle.sheet.specs.declared.kinds.LineKind.TheVariants.{Work, Literal, If, Else, End, Loop}
use Rattle.sheet.specs.declared.rules.Rule.{Rule}
use Rattle.sheet.specs.declared.rules.Rule.TheVariants.{Cell, Operation, Bound, Any, Zero}
use Rattle.sheet.proofs.Stands.{Stands}
use Rattle.sheet.proofs.Stepping.{passed}

never : {A : Type 0} → ◌≡◌ {A = ℕ} 0 1 → A
never e = absurd (omega (arith, e))

-- no fault: the test is passed, and neither has what comes after a fault
pub unless_none : (t : Bool) (f : ReadFault) (rest : Option ReadFault) → unless t f rest ≡ None → (t ≡ true) × (rest ≡ None)
unless_none true f rest h = (refl, h)
unless_none false f rest h = never (cc)

pub or_none : (a b : Option ReadFault) → or_else a b ≡ None → (a ≡ None) × (b ≡ None)
or_none None b h = (refl, h)
or_none (Some f) b h = never (cc)

abbrev Here : List ℕ → ℕ → List ℕ → Type 0
Here = Stands 0

-- each number obeys its rule
abbrev pub Obey : ℕ → List Rule → List ℕ → Type 0
Obey cells [] us = Unit {0}
Obey cells (r ∷ rs) [] = ⊥
Obey cells (r ∷ rs) (u ∷ us) = (obeys cells r u ≡ true) × Obey cells rs us

-- what it means that a byte obeys its rule
abbrev pub Meant : ℕ → Rule → ℕ → Type 0
Meant cells Cell b = b < cells
Meant cells Operation b = b ≤ 7
Meant cells Bound b = 1 ≤ b
Meant cells Any b = Unit {0}
Meant cells Zero b = b ≡ 0

means : (cells : ℕ) (r : Rule) (b : ℕ) → obeys cells r b ≡ true → Meant cells r b
means cells Cell b h = ltb-true b cells h
means cells Operation b h = leb-true b 7 h
means cells Bound b h = leb-true 1 b h
means cells Any b h = tt
means cells Zero b h = eqb-true b 0 h

abbrev pub Seen : ℕ → List ℕ → ℕ → List Rule → Type 0
Seen cells bs at [] = Unit {0}
Seen cells bs at (r ∷ rs) = Meant cells r (byte_at bs at) × Seen cells bs (at + 1) rs

module _ (cells : ℕ) (bs : List ℕ) where
  pub faultless : (at : ℕ) (rs : List Rule) (us : List ℕ) → Obey cells rs us → Here bs at us → bytes_fault cells bs at rs ≡ None
  faultless at [] us h s = refl
  faultless at (r ∷ rs) [] h s = absurd h
  faultless at (r ∷ rs) (u ∷ us) h s =
      passed _ _ _ (ap (obeys cells r) s.0 ∙ h.0) ∙ faultless (at + 1) rs us h.1 s.1

  pub obeyed : (at : ℕ) (rs : List Rule) → bytes_fault cells bs at rs ≡ None → Seen cells bs at rs
  obeyed at [] h = tt
  obeyed at (r ∷ rs) h = let u = unless_none _ _ _ h in (means cells r (byte_at bs at) u.0, obeyed (at + 1) rs u.1)

  -- a line whose bytes have no fault is a line of the layout
  pub data LineIs (at : ℕ) (kind : LineKind) : Type 0 where
    is_work : (t o a b : ℕ) → t < cells → o ≤ 7 → a < cells → b < cells → kind ≡ Work → Here bs at (work_bytes t o a b) → LineIs at kind
    is_literal : (t n : ℕ) → t < cells → n < 2 ^ 32 → kind ≡ Literal → Here bs at (literal_bytes t n) → LineIs at kind
    is_if : (c : ℕ) → c < cells → kind ≡ If → Here bs at (other_bytes 3 c 0) → LineIs at kind
    is_else : kind ≡ Else → Here bs at (other_bytes 4 0 0) → LineIs at kind
    is_end : kind ≡ End → Here bs at (other_bytes 5 0 0) → LineIs at kind
    is_loop : (c n : ℕ) → c < cells → 1 ≤ n → n ≤ 255 → kind ≡ Loop → Here bs at (other_bytes 6 c n) → LineIs at kind

  module _ (at : ℕ) (bytes : Bytes bs) where
    pub line_is : (kind : LineKind) → byte_at bs at ≡ byte_of kind → bytes_fault cells bs (at + 1) (rules_of kind) ≡ None → LineIs at kind
    line_is Work e h =
        let u = obeyed (at + 1) (rules_of Work) h in
        is_work _ _ _ _ u.0 u.1.0 u.1.1.0 u.1.1.1.0 refl (e, (refl, (refl, (refl, (refl, u.1.1.1.1)))))
    line_is Literal e h =
        let u = obeyed (at + 1) (rules_of Literal) h in
        let p = at + 1 + 1 + 1 + 1 in
        let l₀ = bytes p in
        let l₁ = bytes (p + 1) in
        let l₂ = bytes (p + 1 + 1) in
        let l₃ = bytes (p + 1 + 1 + 1) in
        is_literal _ (byte_at bs p + 256 * byte_at bs (p + 1) + 65536 * byte_at bs (p + 1 + 1) + 16777216 * byte_at bs (p + 1 + 1 + 1)) u.0 (omega arith) refl
        (e, (refl, (u.1.0, (u.1.1.0, (omega arith, (omega arith, (omega arith, (omega arith, tt))))))))
    line_is If e h = let u = obeyed (at + 1) (rules_of If) h in is_if _ u.0 refl (e, (refl, u.1))
    line_is Else e h = is_else refl (e, obeyed (at + 1) (rules_of Else) h)
    line_is End e h = is_end refl (e, obeyed (at + 1) (rules_of End) h)
    line_is Loop e h =
        let u = obeyed (at + 1) (rules_of Loop) h in
        let l = bytes (at + 1 + 1) in
        is_loop _ _ u.0 u.1.0 (omega arith) refl (e, (refl, (refl, u.1.1)))
