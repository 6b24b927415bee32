-- What a table of steps holds is kept where its places are.
use Rattle.std.proofs.Common.{◌≡◌, ℕ, ◌+◌, ◌<◌, ◌≤◌, Bool, true, false, List, ◌∙◌, arith}
use Rattle.sheet.specs.Code.{Code, stop, work, literal, choose, repeat}
use Rattle.onepath.specs.Cover.{loop_covered, level_in, loops_in}
use Rattle.onepath.specs.Holds.{step_at, Holds, LoopEnd}
use Rattle.onepath.specs.declared.steps.Step.{Step}

-- the tables ts and us agree from i up to j
abbrev pub Kept : List Step → List Step → ℕ → ℕ → Type 0
Kept ts us i j = (x : ℕ) → i ≤ x → x < j → step_at us x ≡ step_at ts x

pub ends_le : (b : Bool) (ts : List Step) (k x l m e : ℕ) → LoopEnd b ts k x l m e → m ≤ e
ends_le true ts k x l m e h = omega (arith, h.1)
ends_le false ts k x l m e h = omega (arith, h)

ends_kept : (b : Bool) (ts us : List Step) (k x l m e : ℕ) → Kept ts us m e → LoopEnd b ts k x l m e → LoopEnd b us k x l m e
ends_kept true ts us k x l m e s h = (s m (omega arith) (omega (arith, h.1)) ∙ h.0, h.1)
ends_kept false ts us k x l m e s h = h

module _ (cov : ℕ → Bool) where
  pub holds_le : (ts : List Step) (k d l i j : ℕ) (c : Code) → Holds cov ts k d l i j c → i ≤ j
  holds_le ts k d l i j stop h = omega (arith, h)
  holds_le ts k d l i j (work t o a b r) h = let f = holds_le ts k d (l + 1) (i + 1) j r h.1 in omega arith
  holds_le ts k d l i j (literal t n r) h = let f = holds_le ts k d (l + 1) (i + 1) j r h.1 in omega arith
  holds_le ts k d l i j (choose x p q r) h =
      let f₁ = holds_le ts (level_in (cov x) k) d (l + 1) (i + 1) h.0 p h.3 in
      let f₂ = holds_le ts (level_in (cov x) k) d _ (h.0 + 1) h.1 q h.5 in
      let f₃ = holds_le ts k d _ h.1 j r h.6 in
      omega (arith, f₁, f₂, f₃)
  holds_le ts k d l i j (repeat x n p r) h =
      let f₁ = holds_le ts (level_in (loop_covered cov k x) k) (loops_in (loop_covered cov k x) d) (l + 1) (i + 2) h.0 p h.4 in
      let f₂ = ends_le _ ts _ x l _ _ h.6 in
      let f₃ = holds_le ts k d _ h.1 j r h.7 in
      omega (arith, f₁, f₂, f₃)

  pub holds_kept : (ts us : List Step) (k d l i j : ℕ) (c : Code) → Kept ts us i j → Holds cov ts k d l i j c → Holds cov us k d l i j c
  holds_kept ts us k d l i j stop s h = h
  holds_kept ts us k d l i j (work t o a b r) s h =
      let f = holds_le ts k d (l + 1) (i + 1) j r h.1 in
      (s i (omega arith) (omega arith) ∙ h.0, holds_kept ts us k d (l + 1) (i + 1) j r (λ x u v. s x (omega arith) v) h.1)
  holds_kept ts us k d l i j (literal t n r) s h =
      let f = holds_le ts k d (l + 1) (i + 1) j r h.1 in
      (s i (omega arith) (omega arith) ∙ h.0, holds_kept ts us k d (l + 1) (i + 1) j r (λ x u v. s x (omega arith) v) h.1)
  holds_kept ts us k d l i j (choose x p q r) s h =
      let m = h.0 in
      let e = h.1 in
      let f₁ = holds_le ts (level_in (cov x) k) d (l + 1) (i + 1) m p h.3 in
      let f₂ = holds_le ts (level_in (cov x) k) d _ (m + 1) e q h.5 in
      let f₃ = holds_le ts k d _ e j r h.6 in (
        m,
        e,
        s i (omega arith) (omega arith) ∙ h.2,
        holds_kept ts us (level_in (cov x) k) d (l + 1) (i + 1) m p (λ y u v. s y (omega arith) (omega arith)) h.3,
        s m (omega arith) (omega arith) ∙ h.4,
        holds_kept ts us (level_in (cov x) k) d _ (m + 1) e q (λ y u v. s y (omega arith) (omega arith)) h.5,
        holds_kept ts us k d _ e j r (λ y u v. s y (omega arith) (omega arith)) h.6,
      )
  holds_kept ts us k d l i j (repeat x n p r) s h =
      let m = h.0 in
      let e = h.1 in
      let f₁ = holds_le ts (level_in (loop_covered cov k x) k) (loops_in (loop_covered cov k x) d) (l + 1) (i + 2) m p h.4 in
      let f₂ = ends_le _ ts _ x l _ _ h.6 in
      let f₃ = holds_le ts k d _ e j r h.7 in (
        m,
        e,
        s i (omega arith) (omega arith) ∙ h.2,
        s (i + 1) (omega arith) (omega arith) ∙ h.3,
        holds_kept ts us (level_in (loop_covered cov k x) k) (loops_in (loop_covered cov k x) d) (l + 1) (i + 2) m p (λ y u v. s y (omega arith) (omega arith)) h.4,
        s m (omega arith) (omega arith) ∙ h.5,
        ends_kept _ ts us _ x l (m + 1) e (λ y u v. s y (omega arith) (omega arith)) h.6,
        holds_kept ts us k d _ e j r (λ y u v. s y (omega arith) (omega arith)) h.7,
      )
