-- Tables of marks in which marks rise.
use Rattle.std.proofs.Common.{◌≡◌, ℕ, zero, suc, ◌+◌, ◌*◌, ◌<◌, ◌≤◌, Bool, true, false, ◌||◌, List, [], ◌∷◌, length, get_or, set, sym, refl, ap, ◌∙◌, subst, inl, inr, mul-suc, arith}
use Rattle.std.proofs.lemmas.List.{length-set, get_or-set_same, get_or-set_other, set-get_or}
use Rattle.std.proofs.lemmas.Bool.{cases_eq, true≢false, false≢true}
use Rattle.marking.specs.Rules.{AtLeast}
use Rattle.marking.specs.Spread.{marking, Below, total, Moved}
use Rattle.marking.proofs.Order.{Laws, above_trans, above_left, above_right, above_join}

module _ {M : Type 0} {join : M → M → M} {none : M} {rank : M → ℕ} {height : ℕ} (l : Laws join none rank height) where
  abbrev Goes : List M → List M → Bool → Type 0
  Goes = Moved join none rank

  total_set : (ts : List M) (i : ℕ) (v : M) → i < length ts → total rank (set ts i v) + rank (get_or ts i none) ≡ total rank ts + rank v
  total_set [] i v h = absurd (omega arith)
  total_set (t ∷ ts) zero v h = omega arith
  total_set (t ∷ ts) (suc i) v h = let r = total_set ts i v (omega arith) in omega arith

  pub total_most : (ts : List M) → total rank ts ≤ height * length ts
  total_most [] = omega arith
  total_most (t ∷ ts) = omega (arith, total_most ts, l.tops t, mul-suc height (length ts))

  pub moved_not : (ts : List M) → Goes ts ts false
  moved_not ts = record { long = refl; grown = λ x. l.idem (marking none ts x); still = λ _. refl; more = λ e. absurd (false≢true e) }

  pub moved_then : (ts us vs : List M) (r q : Bool) → Goes ts us r → Goes us vs q → Goes ts vs (r || q)
  moved_then ts us vs r q a b =
      record {
        long = b.long ∙ a.long;
        grown = λ x. above_trans l (marking none vs x) (marking none us x) (marking none ts x) (b.grown x) (a.grown x);
        still = still r q a b;
        more = more r q a b;
      }
    where
      still : (r q : Bool) → Goes ts us r → Goes us vs q → (r || q) ≡ false → vs ≡ ts
      still true q a b e = absurd (true≢false e)
      still false q a b e = b.still e ∙ a.still refl

      more : (r q : Bool) → Goes ts us r → Goes us vs q → (r || q) ≡ true → total rank ts < total rank vs
      more true true a b e = omega (arith, a.more refl, b.more refl)
      more true false a b e = omega (arith, a.more refl, ap (total rank) (b.still refl))
      more false q a b e = omega (arith, ap (total rank) (a.still refl), b.more e)

  -- joining a mark to a cell's
  module _ (ts : List M) (i : ℕ) (v : M) (h : i < length ts) where
    abbrev raised : List M
    raised = set ts i (join (marking none ts i) v)

    same_raised : marking none raised i ≡ join (marking none ts i) v
    same_raised = get_or-set_same ts i (join (marking none ts i) v) none h

    pub raised_has : AtLeast join (marking none raised i) v
    raised_has = subst (λ y. AtLeast join y v) (sym same_raised) (above_right l (marking none ts i) v)

    pub raised_below : (m : ℕ → M) → AtLeast join (m i) v → Below join none ts m → Below join none raised m
    raised_below m p b x =
        elim (cases_eq x i) [
          | inl e ↦
              subst (λ y. AtLeast join (m y) (marking none raised y)) (sym e)
              (subst (AtLeast join (m i)) (sym same_raised) (above_join l (m i) (marking none ts i) v (b i) p))
          | inr ne ↦ subst (AtLeast join (m x)) (sym (get_or-set_other ts i x (join (marking none ts i) v) none ne)) (b x)
        ]

    pub raised_moved : (r : Bool) → (r ≡ true → AtLeast join (marking none ts i) v → ⊥) → (r ≡ false → AtLeast join (marking none ts i) v) → Goes ts raised r
    raised_moved r rises stays =
        record {
          long = length-set ts i (join (marking none ts i) v);
          grown = λ x.
              elim (cases_eq x i) [
                | inl e ↦
                    subst (λ y. AtLeast join (marking none raised y) (marking none ts y)) (sym e)
                    (subst (λ y. AtLeast join y (marking none ts i)) (sym same_raised) (above_left l (marking none ts i) v))
                | inr ne ↦
                    subst (λ y. AtLeast join y (marking none ts x)) (sym (get_or-set_other ts i x (join (marking none ts i) v) none ne)) (l.idem (marking none ts x))
              ];
          still = λ e. ap (set ts i) (stays e) ∙ set-get_or ts i none;
          more = λ e. omega (arith, total_set ts i (join (marking none ts i) v) h, l.rises (marking none ts i) v (rises e));
        }
