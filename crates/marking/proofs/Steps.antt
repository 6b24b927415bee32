-- A pass, construct by construct.
use Rattle.std.proofs.Common.{◌≡◌, ℕ, ◌<◌, Bool, true, false, ◌||◌, List, length, set, sym, ◌∙◌, subst}
use Rattle.std.proofs.lemmas.Bool.{or_parts}
use Rattle.sheet.specs.Blocks.{HasCode, Heads}
use Rattle.sheet.specs.Code.{Code, stop}
use Rattle.sheet.specs.declared.block.Block.{Block}
use Rattle.sheet.specs.declared.block.Construct.TheVariants.{Work, Literal, If, Loop}
use Rattle.marking.specs.Rules.{AtLeast}
use Rattle.marking.specs.Spread.{marking, Below, FollowsUnder, Moved, Passed}
use Rattle.marking.proofs.Order.{Laws, above_trans, above_left, above_right, above_join, above_joins}
use Rattle.marking.proofs.Tables.{moved_not, moved_then, raised_moved, raised_below}
use Rattle.marking.proofs.Contexts.{follows_less}

-- what a pass says of whether a mark rose, with the lines before it
pub or_more : (P : Bool → Type 0) (x y z : Bool) → P (x || (y || z)) → P ((x || y) || z)
or_more P true y z h = h
or_more P false y z h = h

pub or_none : (P : Bool → Type 0) (x : Bool) → P (x || false) → P x
or_none P true h = h
or_none P false h = h

-- a cell's mark had another joined to it; `rose` says whether that changed it
pub record Raised {M : Type 0} (join : M → M → M) (none : M) (ts us : List M) (t : ℕ) (v : M) (rose : Bool) : Type 0 where
  pub inside : t < length ts
  pub after : us ≡ set ts t (join (marking none ts t) v)
  pub rises : rose ≡ true → AtLeast join (marking none ts t) v → ⊥
  pub stays : rose ≡ false → AtLeast join (marking none ts t) v

module _ {M : Type 0} {join : M → M → M} {none : M} {rank : M → ℕ} {height : ℕ} (l : Laws join none rank height) where
  pub raise_moved : (ts us : List M) (t : ℕ) (v : M) (r : Bool) → Raised join none ts us t v r → Moved join none rank ts us r
  raise_moved ts us t v r d = subst (λ y. Moved join none rank ts y r) (sym d.after) (raised_moved l ts t v d.inside r d.rises d.stays)

  pub raise_below : (ts us : List M) (t : ℕ) (v : M) (r : Bool) → Raised join none ts us t v r → (m : ℕ → M) → AtLeast join (m t) v → Below join none ts m → Below join none us m
  raise_below ts us t v r d m p b = subst (λ y. Below join none y m) (sym d.after) (raised_below l ts t v d.inside m p b)

  module _ (w : M) where
    abbrev Pass : Block → List M → List M → Bool → Type 0
    Pass b ts us r = Passed join none rank b w ts us r

    pub pass_none : (b : Block) (ts : List M) → ((c : Code) → HasCode b c → c ≡ stop) → Pass b ts ts false
    pass_none b ts e =
        record {
          moved = moved_not l ts;
          meets = λ _ c h. subst (FollowsUnder join (marking none ts) w) (sym (e c h)) tt;
          below = λ c h m f b. b;
        }

    module _ (b d : Block) (ts : List M) where
      pub pass_work : (us vs : List M) (t o x y : ℕ) (r q : Bool) → Heads b (Work t o x y) d →
          Raised join none ts us t (join (join (marking none ts x) (marking none ts y)) w) r → Pass d us vs q → Pass b ts vs (r || q)
      pass_work us vs t o x y r q h e n =
          let reads = join (marking none ts x) (marking none ts y) in
          let mv = raise_moved ts us t (join reads w) r e in
          record {
            moved = moved_then l ts us vs r q mv n.moved;
            meets = λ s c i.
                let k = h.begins c i in
                let s' = or_parts r q s in
                let up = e.stays s'.0 in
                subst (FollowsUnder join (marking none ts) w) (sym k.1) (
                  above_trans l _ (join reads w) reads up (above_left l reads w),
                  above_trans l _ (join reads w) w up (above_right l reads w),
                  subst (λ y. FollowsUnder join (marking none y) w k.0) (mv.still s'.0) (n.meets s'.1 k.0 k.2),
                );
            below = λ c i m f low.
                let k = h.begins c i in
                let f' = subst (FollowsUnder join m w) k.1 f in
                let up = above_join l (m t) reads w (above_trans l (m t) (join (m x) (m y)) reads f'.0 (above_joins l (m x) _ (m y) _ (low x) (low y))) f'.1 in
                n.below k.0 k.2 m f'.2 (raise_below ts us t (join reads w) r e m up low);
          }

      pub pass_literal : (us vs : List M) (t v : ℕ) (r q : Bool) → Heads b (Literal t v) d →
          Raised join none ts us t w r → Pass d us vs q → Pass b ts vs (r || q)
      pass_literal us vs t v r q h e n =
          let mv = raise_moved ts us t w r e in
          record {
            moved = moved_then l ts us vs r q mv n.moved;
            meets = λ s c i.
                let k = h.begins c i in
                let s' = or_parts r q s in
                subst (FollowsUnder join (marking none ts) w) (sym k.1)
                (e.stays s'.0, subst (λ y. FollowsUnder join (marking none y) w k.0) (mv.still s'.0) (n.meets s'.1 k.0 k.2));
            below = λ c i m f low.
                let k = h.begins c i in
                let f' = subst (FollowsUnder join m w) k.1 f in
                n.below k.0 k.2 m f'.1 (raise_below ts us t w r e m f'.0 low);
          }

      -- a construct on the cell x: what its blocks stand under
      abbrev In : ℕ → M
      In x = join w (marking none ts x)

      under : (m : ℕ → M) → Below join none ts m → (x : ℕ) (p : Code) → FollowsUnder join m (join w (m x)) p → FollowsUnder join m (In x) p
      under m low x p f = follows_less l m (join w (m x)) (In x) (above_joins l w w (m x) _ (l.idem w) (low x)) p f

      pub pass_loop : (us vs : List M) (i x v : ℕ) (p : Block) (r q : Bool) → Heads b (Loop i x v p) d →
          Passed join none rank p (In x) ts us r → Pass d us vs q → Pass b ts vs (r || q)
      pass_loop us vs i x v p r q h e n =
          record {
            moved = moved_then l ts us vs r q e.moved n.moved;
            meets = λ s c g.
                let k = h.begins c g in
                let s' = or_parts r q s in
                subst (FollowsUnder join (marking none ts) w) (sym k.1.2) (
                  e.meets s'.0 k.1.0 k.1.1,
                  subst (λ y. FollowsUnder join (marking none y) w k.0) (e.moved.still s'.0) (n.meets s'.1 k.0 k.2),
                );
            below = λ c g m f low.
                let k = h.begins c g in
                let f' = subst (FollowsUnder join m w) k.1.2 f in
                n.below k.0 k.2 m f'.1 (e.below k.1.0 k.1.1 m (under m low x k.1.0 f'.0) low);
          }

      pub pass_if : (us us' vs : List M) (x : ℕ) (p p' : Block) (r r' q : Bool) → Heads b (If x p p') d →
          Passed join none rank p (In x) ts us r → Passed join none rank p' (In x) us us' r' → Pass d us' vs q → Pass b ts vs (r || (r' || q))
      pass_if us us' vs x p p' r r' q h e e' n =
          record {
            moved = moved_then l ts us vs r (r' || q) e.moved (moved_then l us us' vs r' q e'.moved n.moved);
            meets = λ s c g.
                let k = h.begins c g in
                let s₁ = or_parts r (r' || q) s in
                let s₂ = or_parts r' q s₁.1 in
                let same = e.moved.still s₁.0 in
                subst (FollowsUnder join (marking none ts) w) (sym k.1.4) (
                  e.meets s₁.0 k.1.0 k.1.2,
                  subst (λ y. FollowsUnder join (marking none y) (In x) k.1.1) same (e'.meets s₂.0 k.1.1 k.1.3),
                  subst (λ y. FollowsUnder join (marking none y) w k.0) (e'.moved.still s₂.0 ∙ same) (n.meets s₂.1 k.0 k.2),
                );
            below = λ c g m f low.
                let k = h.begins c g in
                let f' = subst (FollowsUnder join m w) k.1.4 f in
                let low₁ = e.below k.1.0 k.1.2 m (under m low x k.1.0 f'.0) low in
                let low₂ = e'.below k.1.1 k.1.3 m (under m low x k.1.1 f'.1) low₁ in
                n.below k.0 k.2 m f'.2 low₂;
          }
