-- What the first line of a span says of the code that the span is.
use Rattle.std.proofs.Common.{◌≡◌, ℕ, ◌+◌, ◌≤◌, List, refl, subst, arith}
use Rattle.sheet.specs.Code.{Code, stop, work, literal, choose, repeat, size_of}
use Rattle.sheet.specs.Spans.{line_at, Spans}
use Rattle.sheet.specs.declared.lines.Line.{Line}
use Rattle.sheet.specs.declared.lines.Line.TheVariants.{Work, Literal, If, Else, End, Loop}

-- a span has as many lines as its code
pub spans_size : (xs : List Line) (i j : ℕ) (c : Code) → Spans xs i j c → j ≡ i + size_of c
spans_size xs i j stop h = omega (arith, h)
spans_size xs i j (work t o a b r) h = let l = spans_size xs (i + 1) j r h.1 in omega arith
spans_size xs i j (literal t n r) h = let l = spans_size xs (i + 1) j r h.1 in omega arith
spans_size xs i j (choose c p q r) h =
    let l₁ = spans_size xs (i + 1) h.0 p h.3 in
    let l₂ = spans_size xs (h.0 + 1) h.1 q h.5 in
    let l₃ = spans_size xs (h.1 + 1) j r h.7 in
    omega arith
spans_size xs i j (repeat c n p r) h =
    let l₁ = spans_size xs (i + 1) h.0 p h.2 in
    let l₂ = spans_size xs (h.0 + 1) j r h.4 in
    omega arith

pub spans_le : (xs : List Line) (i j : ℕ) (c : Code) → Spans xs i j c → i ≤ j
spans_le xs i j c h = let e = spans_size xs i j c h in omega arith

-- an empty span is the empty code
pub spans_none : (xs : List Line) (i j : ℕ) (c : Code) → i ≡ j → Spans xs i j c → c ≡ stop
spans_none xs i j stop e h = refl
spans_none xs i j (work t o a b r) e h = let l = spans_size xs i j (work t o a b r) h in absurd (omega arith)
spans_none xs i j (literal t n r) e h = let l = spans_size xs i j (literal t n r) h in absurd (omega arith)
spans_none xs i j (choose c p q r) e h = let l = spans_size xs i j (choose c p q r) h in absurd (omega arith)
spans_none xs i j (repeat c n p r) e h = let l = spans_size xs i j (repeat c n p r) h in absurd (omega arith)

never : {A : Type 0} → ◌≡◌ {A = ℕ} 0 1 → A
never e = absurd (omega (arith, e))

pub record AtWork (xs : List Line) (i j t o a b : ℕ) (c : Code) : Type 0 where
  pub rest : Code
  pub is : c ≡ work t o a b rest
  pub spans : Spans xs (i + 1) j rest
  pub le : i + 1 ≤ j

pub record AtLiteral (xs : List Line) (i j t n : ℕ) (c : Code) : Type 0 where
  pub rest : Code
  pub is : c ≡ literal t n rest
  pub spans : Spans xs (i + 1) j rest
  pub le : i + 1 ≤ j

pub record AtIf (xs : List Line) (i j x e : ℕ) (c : Code) : Type 0 where
  pub first : Code
  pub second : Code
  pub rest : Code
  pub is : c ≡ choose x first second rest
  pub z : ℕ
  pub spans_first : Spans xs (i + 1) e first
  pub mid : line_at xs e ≡ Else z
  pub spans_second : Spans xs (e + 1) z second
  pub end : line_at xs z ≡ End i
  pub spans_rest : Spans xs (z + 1) j rest
  pub le_first : i + 1 ≤ e
  pub le_second : e + 1 ≤ z
  pub le_rest : z + 1 ≤ j

pub record AtLoop (xs : List Line) (i j x n z : ℕ) (c : Code) : Type 0 where
  pub first : Code
  pub rest : Code
  pub is : c ≡ repeat x n first rest
  pub spans_first : Spans xs (i + 1) z first
  pub end : line_at xs z ≡ End i
  pub spans_rest : Spans xs (z + 1) j rest
  pub le_first : i + 1 ≤ z
  pub le_rest : z + 1 ≤ j

module _ (xs : List Line) (i j : ℕ) (more : i ≡ j → ⊥) where
  pub at_work : (t o a b : ℕ) → line_at xs i ≡ Work t o a b → (c : Code) → Spans xs i j c → AtWork xs i j t o a b c
  at_work t o a b e stop h = absurd (more h)
  at_work t o a b e (work t' o' a' b' r) h = let h₁ = h.0 in record { rest = r; is = cc; spans = h.1; le = spans_le xs _ _ r h.1 }
  at_work t o a b e (literal t' n r) h = let h₁ = h.0 in never (cc)
  at_work t o a b e (choose x p q r) h = let h₁ = h.2 in never (cc)
  at_work t o a b e (repeat x n p r) h = let h₁ = h.1 in never (cc)

  pub at_literal : (t n : ℕ) → line_at xs i ≡ Literal t n → (c : Code) → Spans xs i j c → AtLiteral xs i j t n c
  at_literal t n e stop h = absurd (more h)
  at_literal t n e (work t' o' a' b' r) h = let h₁ = h.0 in never (cc)
  at_literal t n e (literal t' n' r) h = let h₁ = h.0 in record { rest = r; is = cc; spans = h.1; le = spans_le xs _ _ r h.1 }
  at_literal t n e (choose x p q r) h = let h₁ = h.2 in never (cc)
  at_literal t n e (repeat x n' p r) h = let h₁ = h.1 in never (cc)

  pub at_if : (x e : ℕ) → line_at xs i ≡ If x e → (c : Code) → Spans xs i j c → AtIf xs i j x e c
  at_if x e w stop h = absurd (more h)
  at_if x e w (work t' o' a' b' r) h = let h₁ = h.0 in never (cc)
  at_if x e w (literal t' n' r) h = let h₁ = h.0 in never (cc)
  at_if x e w (choose x' p q r) h =
      let h₁ = h.2 in
      let ee : h.0 ≡ e = cc in
      let s₁ = subst (λ y. Spans xs (i + 1) y p) ee h.3 in
      let s₂ = subst (λ y. Spans xs (y + 1) h.1 q) ee h.5 in
      record { first = p; second = q; rest = r; is = cc; z = h.1; spans_first = s₁; mid = subst (λ y. line_at xs y ≡ Else h.1) ee h.4; spans_second = s₂; end = h.6; spans_rest = h.7; le_first = spans_le xs _ _ p s₁; le_second = spans_le xs _ _ q s₂; le_rest = spans_le xs _ _ r h.7 }
  at_if x e w (repeat x' n p r) h = let h₁ = h.1 in never (cc)

  pub at_loop : (x n z : ℕ) → line_at xs i ≡ Loop x n z → (c : Code) → Spans xs i j c → AtLoop xs i j x n z c
  at_loop x n z w stop h = absurd (more h)
  at_loop x n z w (work t' o' a' b' r) h = let h₁ = h.0 in never (cc)
  at_loop x n z w (literal t' n' r) h = let h₁ = h.0 in never (cc)
  at_loop x n z w (choose x' p q r) h = let h₁ = h.2 in never (cc)
  at_loop x n z w (repeat x' n' p r) h =
      let h₁ = h.1 in
      let ez : h.0 ≡ z = cc in
      let s₁ = subst (λ y. Spans xs (i + 1) y p) ez h.2 in
      let s₂ = subst (λ y. Spans xs (y + 1) j r) ez h.4 in
      record { first = p; rest = r; is = cc; spans_first = s₁; end = subst (λ y. line_at xs y ≡ End i) ez h.3; spans_rest = s₂; le_first = spans_le xs _ _ p s₁; le_rest = spans_le xs _ _ r s₂ }

  pub not_else : (z : ℕ) → line_at xs i ≡ Else z → (c : Code) → Spans xs i j c → ⊥
  not_else z e stop h = more h
  not_else z e (work t' o' a' b' r) h = let h₁ = h.0 in never (cc)
  not_else z e (literal t' n' r) h = let h₁ = h.0 in never (cc)
  not_else z e (choose x p q r) h = let h₁ = h.2 in never (cc)
  not_else z e (repeat x n' p r) h = let h₁ = h.1 in never (cc)

  pub not_end : (z : ℕ) → line_at xs i ≡ End z → (c : Code) → Spans xs i j c → ⊥
  not_end z e stop h = more h
  not_end z e (work t' o' a' b' r) h = let h₁ = h.0 in never (cc)
  not_end z e (literal t' n' r) h = let h₁ = h.0 in never (cc)
  not_end z e (choose x p q r) h = let h₁ = h.2 in never (cc)
  not_end z e (repeat x n' p r) h = let h₁ = h.1 in never (cc)
