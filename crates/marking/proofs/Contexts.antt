-- The rules under a joined mark, and under the condition cells that it is joined of.
use Rattle.std.proofs.Common.{ℕ, List, [], ◌∷◌}
use Rattle.sheet.specs.Code.{Code, stop, work, literal, choose, repeat}
use Rattle.marking.specs.Rules.{AtLeast, AtLeastAll, Follows}
use Rattle.marking.specs.Spread.{FollowsUnder}
use Rattle.marking.proofs.Order.{Laws, above_trans, above_left, above_right, above_join, above_joins}

module _ {M : Type 0} {join : M → M → M} {none : M} {rank : M → ℕ} {height : ℕ} (l : Laws join none rank height) (m : ℕ → M) where
  -- what holds under a mark holds under any that it is at least
  pub follows_less : (v w : M) → AtLeast join v w → (c : Code) → FollowsUnder join m v c → FollowsUnder join m w c
  follows_less v w h stop f = tt
  follows_less v w h (work t o a b r) f = (f.0, above_trans l (m t) v w f.1 h, follows_less v w h r f.2)
  follows_less v w h (literal t n r) f = (above_trans l (m t) v w f.0 h, follows_less v w h r f.1)
  follows_less v w h (choose x p q r) f =
      let g = above_joins l v w (m x) (m x) h (l.idem (m x)) in
      (follows_less (join v (m x)) (join w (m x)) g p f.0, follows_less (join v (m x)) (join w (m x)) g q f.1, follows_less v w h r f.2)
  follows_less v w h (repeat x n p r) f =
      let g = above_joins l v w (m x) (m x) h (l.idem (m x)) in
      (follows_less (join v (m x)) (join w (m x)) g p f.0, follows_less v w h r f.1)

  all_trans : (v w : M) (cs : List ℕ) → AtLeast join v w → AtLeastAll join m w cs → AtLeastAll join m v cs
  all_trans v w [] h a = tt
  all_trans v w (c ∷ cs) h a = (above_trans l v w (m c) h a.0, all_trans v w cs h a.1)

  all_more : (w : M) (x : ℕ) (cs : List ℕ) → AtLeastAll join m w cs → AtLeastAll join m (join w (m x)) (x ∷ cs)
  all_more w x cs a = (above_right l w (m x), all_trans (join w (m x)) w cs (above_left l w (m x)) a)

  pub to_conditions : (w : M) (cs : List ℕ) → AtLeastAll join m w cs → (c : Code) → FollowsUnder join m w c → Follows join m cs c
  to_conditions w cs h stop f = tt
  to_conditions w cs h (work t o a b r) f = (f.0, all_trans (m t) w cs f.1 h, to_conditions w cs h r f.2)
  to_conditions w cs h (literal t n r) f = (all_trans (m t) w cs f.0 h, to_conditions w cs h r f.1)
  to_conditions w cs h (choose x p q r) f =
      let g = all_more w x cs h in
      (to_conditions (join w (m x)) (x ∷ cs) g p f.0, to_conditions (join w (m x)) (x ∷ cs) g q f.1, to_conditions w cs h r f.2)
  to_conditions w cs h (repeat x n p r) f = (to_conditions (join w (m x)) (x ∷ cs) (all_more w x cs h) p f.0, to_conditions w cs h r f.1)

  -- w is at most what is at least each of the conditions
  abbrev pub Joined : M → List ℕ → Type 0
  Joined w cs = (y : M) → AtLeastAll join m y cs → AtLeast join y w

  joined_more : (w : M) (x : ℕ) (cs : List ℕ) → Joined w cs → Joined (join w (m x)) (x ∷ cs)
  joined_more w x cs h y a = above_join l y w (m x) (h y a.1) a.0

  pub from_conditions : (w : M) (cs : List ℕ) → Joined w cs → (c : Code) → Follows join m cs c → FollowsUnder join m w c
  from_conditions w cs h stop f = tt
  from_conditions w cs h (work t o a b r) f = (f.0, h (m t) f.1, from_conditions w cs h r f.2)
  from_conditions w cs h (literal t n r) f = (h (m t) f.0, from_conditions w cs h r f.1)
  from_conditions w cs h (choose x p q r) f =
      let g = joined_more w x cs h in
      (from_conditions (join w (m x)) (x ∷ cs) g p f.0, from_conditions (join w (m x)) (x ∷ cs) g q f.1, from_conditions w cs h r f.2)
  from_conditions w cs h (repeat x n p r) f = (from_conditions (join w (m x)) (x ∷ cs) (joined_more w x cs h) p f.0, from_conditions w cs h r f.1)
