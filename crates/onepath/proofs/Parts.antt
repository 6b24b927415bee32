-- A block as its first construct, and the rest.
use Rattle.std.proofs.Common.{◌≡◌, ℕ, ◌+◌, Bool, List, sym, refl, ap, ◌∙◌, subst, arith}
use Rattle.sheet.specs.Blocks.{Lies, lines_in, Leads}
use Rattle.sheet.specs.Code.{Code, stop, work, literal, choose, repeat, size_of}
use Rattle.sheet.specs.declared.block.Construct.{Construct}
use Rattle.sheet.specs.declared.block.Construct.TheVariants.{Work, Literal, If, Loop}
use Rattle.sheet.specs.declared.lines.Line.{Line}
use Rattle.sheet.proofs.Heads.{spans_size}
use Rattle.onepath.specs.Holds.{Holds}
use Rattle.onepath.specs.declared.steps.Step.{Step}

-- one code after another
abbrev pub follow : Code → Code → Code
follow stop s = s
follow (work t o a b r) s = work t o a b (follow r s)
follow (literal t n r) s = literal t n (follow r s)
follow (choose x p q r) s = choose x p q (follow r s)
follow (repeat x n p r) s = repeat x n p (follow r s)

-- the code c, cut after the construct
pub record Cut (x : Construct) (c r : Code) : Type 0 where
  pub one : Code
  pub begins : Leads x one stop
  pub is : c ≡ follow one r

pub cut : (x : Construct) (c r : Code) → Leads x c r → Cut x c r
cut (Work t o a b) c r h = record { one = work t o a b stop; begins = refl; is = h }
cut (Literal t n) c r h = record { one = literal t n stop; begins = refl; is = h }
cut (If x p q) c r h = record { one = choose x h.0 h.1 stop; begins = (h.0, h.1, h.2, h.3, refl); is = h.4 }
cut (Loop l x n p) c r h = record { one = repeat x n h.0 stop; begins = (h.0, h.1, refl); is = h.2 }

-- where the construct ends: as many lines on as it has
pub lies_lines : (xs : List Line) (i j : ℕ) (x : Construct) → Lies xs i x j → j ≡ i + lines_in x
lies_lines xs i j (Work t o a b) h = h
lies_lines xs i j (Literal t n) h = h
lies_lines xs i j (If x p q) h = omega (arith, h.1, h.3, h.4, p.ordered, q.ordered)
lies_lines xs i j (Loop l x n p) h = omega (arith, h.2, h.3, p.ordered)

-- ... which are as many as its code has
pub lies_size : (xs : List Line) (i j : ℕ) (x : Construct) → Lies xs i x j → (c : Code) → Leads x c stop → j ≡ i + size_of c
lies_size xs i j (Work t o a b) h c e = h ∙ ap (λ y. i + size_of y) (sym e)
lies_size xs i j (Literal t n) h c e = h ∙ ap (λ y. i + size_of y) (sym e)
lies_size xs i j (If x p q) h c e =
    let m = spans_size p.lines.now p.from p.to e.0 e.2 in
    let n = spans_size q.lines.now q.from q.to e.1 e.3 in
    let s : i + (3 + size_of e.0 + size_of e.1 + 0) ≡ i + size_of c = ap (λ y. i + size_of y) (sym e.4) in
    omega (arith, h.1, h.3, h.4, m, n, s)
lies_size xs i j (Loop l x n p) h c e =
    let m = spans_size p.lines.now p.from p.to e.0 e.1 in
    let s : i + (2 + size_of e.0 + 0) ≡ i + size_of c = ap (λ y. i + size_of y) (sym e.2) in
    omega (arith, h.2, h.3, m, s)

module _ (cov : ℕ → Bool) (ts : List Step) (k d : ℕ) where
  holds_moved : (l l' i i' j : ℕ) (c : Code) → l ≡ l' → i ≡ i' → Holds cov ts k d l i j c → Holds cov ts k d l' i' j c
  holds_moved l l' i i' j c e f h = subst (λ y. Holds cov ts k d y i' j c) e (subst (λ y. Holds cov ts k d l y j c) f h)

  pub holds_follow : (l i m j : ℕ) (c s : Code) → Holds cov ts k d l i m c → Holds cov ts k d (l + size_of c) m j s → Holds cov ts k d l i j (follow c s)
  holds_follow l i m j stop s h g = holds_moved (l + 0) l m i j s (omega arith) (sym h) g
  holds_follow l i m j (work t o a b r) s h g =
      (h.0, holds_follow (l + 1) (i + 1) m j r s h.1 (holds_moved _ (l + 1 + size_of r) m m j s (omega arith) refl g))
  holds_follow l i m j (literal t n r) s h g =
      (h.0, holds_follow (l + 1) (i + 1) m j r s h.1 (holds_moved _ (l + 1 + size_of r) m m j s (omega arith) refl g))
  holds_follow l i m j (choose x p q r) s h g = (
    h.0,
    h.1,
    h.2,
    h.3,
    h.4,
    h.5,
    holds_follow (l + 1 + size_of p + 1 + size_of q + 1) h.1 m j r s h.6
        (holds_moved _ (l + 1 + size_of p + 1 + size_of q + 1 + size_of r) m m j s (omega arith) refl g),
  )
  holds_follow l i m j (repeat x n p r) s h g = (
    h.0,
    h.1,
    h.2,
    h.3,
    h.4,
    h.5,
    h.6,
    holds_follow (l + 1 + size_of p + 1) h.1 m j r s h.7
        (holds_moved _ (l + 1 + size_of p + 1 + size_of r) m m j s (omega arith) refl g),
  )
