-- What is known of a block that begins with a line, where no more is known of its code than that there is one.
use Rattle.std.proofs.Common.{◌≡◌, ℕ, ◌+◌, ◌≤◌, List, subst, arith}
use Rattle.std.proofs.Math.Logic.{∥∥₁_elim, ∥∥₁_prop}
use Rattle.std.specs.Coded.{le_prop}
use Rattle.sheet.specs.Code.{Code}
use Rattle.sheet.specs.Spans.{line_at, Spans, IsCode}
use Rattle.sheet.specs.declared.lines.Line.{Line}
use Rattle.sheet.specs.declared.lines.Line.TheVariants.{Work, Literal, If, Else, Loop}
use Rattle.sheet.proofs.Heads.{AtIf, at_work, at_literal, at_if, at_loop}

module _ (xs : List Line) (i j : ℕ) (more : i ≡ j → ⊥) (some : ∥ IsCode xs i j ∥₁) where
  pub record InPlain : Type 0 where
    pub le : i + 1 ≤ j
    pub rest : ∥ IsCode xs (i + 1) j ∥₁

  pub in_work : (t o a b : ℕ) → line_at xs i ≡ Work t o a b → InPlain
  in_work t o a b w =
      record {
        le = ∥∥₁_elim some le_prop (λ k. (at_work xs i j more t o a b w k.0 k.1).le);
        rest = ∥∥₁_elim some ∥∥₁_prop (λ k. let v = at_work xs i j more t o a b w k.0 k.1 in ∣ (v.rest, v.spans) ∣₁);
      }

  pub in_literal : (t n : ℕ) → line_at xs i ≡ Literal t n → InPlain
  in_literal t n w =
      record {
        le = ∥∥₁_elim some le_prop (λ k. (at_literal xs i j more t n w k.0 k.1).le);
        rest = ∥∥₁_elim some ∥∥₁_prop (λ k. let v = at_literal xs i j more t n w k.0 k.1 in ∣ (v.rest, v.spans) ∣₁);
      }

  -- the line that an if names is an else of the block
  pub else_inside : (x e : ℕ) → line_at xs i ≡ If x e → e + 1 ≤ j
  else_inside x e w = ∥∥₁_elim some le_prop (λ k. let v = at_if xs i j more x e w k.0 k.1 in omega (arith, v.le_second, v.le_rest))

  pub no_other : (x e : ℕ) → line_at xs i ≡ If x e → ((z : ℕ) → line_at xs e ≡ Else z → ⊥) → ⊥
  no_other x e w n = ∥∥₁_elim some (λ p q. absurd p) (λ k. let v = at_if xs i j more x e w k.0 k.1 in n v.z v.mid)

  -- z is the line of the end
  pub record InIf (e z : ℕ) : Type 0 where
    pub le_first : i + 1 ≤ e
    pub le_second : e + 1 ≤ z
    pub le_rest : z + 1 ≤ j
    pub first : ∥ IsCode xs (i + 1) e ∥₁
    pub second : ∥ IsCode xs (e + 1) z ∥₁
    pub rest : ∥ IsCode xs (z + 1) j ∥₁

  module _ (x e z : ℕ) (w : line_at xs i ≡ If x e) (h : line_at xs e ≡ Else z) where
    module _ (c : Code) (v : AtIf xs i j x e c) where
      z_is : v.z ≡ z
      z_is = let m = v.mid in cc

    pub in_if : InIf e z
    in_if =
        record {
          le_first = ∥∥₁_elim some le_prop (λ k. (at_if xs i j more x e w k.0 k.1).le_first);
          le_second = ∥∥₁_elim some le_prop (λ k. let v = at_if xs i j more x e w k.0 k.1 in subst (λ y. e + 1 ≤ y) (z_is k.0 v) v.le_second);
          le_rest = ∥∥₁_elim some le_prop (λ k. let v = at_if xs i j more x e w k.0 k.1 in subst (λ y. y + 1 ≤ j) (z_is k.0 v) v.le_rest);
          first = ∥∥₁_elim some ∥∥₁_prop (λ k. let v = at_if xs i j more x e w k.0 k.1 in ∣ (v.first, v.spans_first) ∣₁);
          second = ∥∥₁_elim some ∥∥₁_prop (λ k. let v = at_if xs i j more x e w k.0 k.1 in ∣ (v.second, subst (λ y. Spans xs (e + 1) y v.second) (z_is k.0 v) v.spans_second) ∣₁);
          rest = ∥∥₁_elim some ∥∥₁_prop (λ k. let v = at_if xs i j more x e w k.0 k.1 in ∣ (v.rest, subst (λ y. Spans xs (y + 1) j v.rest) (z_is k.0 v) v.spans_rest) ∣₁);
        }

  pub record InLoop (z : ℕ) : Type 0 where
    pub le_first : i + 1 ≤ z
    pub le_rest : z + 1 ≤ j
    pub first : ∥ IsCode xs (i + 1) z ∥₁
    pub rest : ∥ IsCode xs (z + 1) j ∥₁

  pub in_loop : (x n z : ℕ) → line_at xs i ≡ Loop x n z → InLoop z
  in_loop x n z w =
      record {
        le_first = ∥∥₁_elim some le_prop (λ k. (at_loop xs i j more x n z w k.0 k.1).le_first);
        le_rest = ∥∥₁_elim some le_prop (λ k. (at_loop xs i j more x n z w k.0 k.1).le_rest);
        first = ∥∥₁_elim some ∥∥₁_prop (λ k. let v = at_loop xs i j more x n z w k.0 k.1 in ∣ (v.first, v.spans_first) ∣₁);
        rest = ∥∥₁_elim some ∥∥₁_prop (λ k. let v = at_loop xs i j more x n z w k.0 k.1 in ∣ (v.rest, v.spans_rest) ∣₁);
      }
