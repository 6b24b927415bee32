-- The order of marks that comes from their join.
use Rattle.std.proofs.Common.{◌≡◌, ℕ, ◌<◌, ◌≤◌, ◌≢◌, sym, ap, ◌∙◌}
use Rattle.marking.specs.Rules.{AtLeast}

-- what a kind of marks keeps
pub record Laws {M : Type 0} (join : M → M → M) (none : M) (rank : M → ℕ) (height : ℕ) : Type 0 where
  pub assoc : (x y z : M) → join (join x y) z ≡ join x (join y z)
  pub comm : (x y : M) → join x y ≡ join y x
  pub idem : (x : M) → join x x ≡ x
  pub neutral : (x : M) → join none x ≡ x
  pub rises : (x y : M) → join x y ≢ x → rank x < rank (join x y)
  pub tops : (x : M) → rank x ≤ height

module _ {M : Type 0} {join : M → M → M} {none : M} {rank : M → ℕ} {height : ℕ} (l : Laws join none rank height) where
  pub above_trans : (x y z : M) → AtLeast join x y → AtLeast join y z → AtLeast join x z
  above_trans x y z p q = ap (λ v. join v z) (sym p) ∙ l.assoc x y z ∙ ap (join x) q ∙ p

  pub above_none : (x : M) → AtLeast join x none
  above_none x = l.comm x none ∙ l.neutral x

  pub above_left : (x y : M) → AtLeast join (join x y) x
  above_left x y = l.comm (join x y) x ∙ sym (l.assoc x x y) ∙ ap (λ v. join v y) (l.idem x)

  pub above_right : (x y : M) → AtLeast join (join x y) y
  above_right x y = l.assoc x y y ∙ ap (join x) (l.idem y)

  -- a join is the least mark above both
  pub above_join : (x y z : M) → AtLeast join x y → AtLeast join x z → AtLeast join x (join y z)
  above_join x y z p q = sym (l.assoc x y z) ∙ ap (λ v. join v z) p ∙ q

  pub above_joins : (x x' y y' : M) → AtLeast join x x' → AtLeast join y y' → AtLeast join (join x y) (join x' y')
  above_joins x x' y y' p q =
      above_join (join x y) x' y' (above_trans (join x y) x x' (above_left x y) p) (above_trans (join x y) y y' (above_right x y) q)
