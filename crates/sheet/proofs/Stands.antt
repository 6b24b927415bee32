-- A list that stands in another from a place on.
use Rattle.std.proofs.Common.{◌≡◌, ℕ, suc, ◌+◌, ◌≤◌, List, [], ◌∷◌, ◌++◌, length, take, drop, sym, refl, ap, ◌∙◌, subst, arith}
pub use Rattle.sheet.specs.Filling.{Stands}
use Rattle.std.proofs.lemmas.List.{append_assoc, get_or_at, length_push, drop_more, take-append-drop}

module _ {A : Type 0} (d : A) where
  pub stands_moved : (xs : List A) (i j : ℕ) (us : List A) → i ≡ j → Stands d xs i us → Stands d xs j us
  stands_moved xs i j us e h = subst (λ y. Stands d xs y us) e h

  pub stands_append : (xs : List A) (i : ℕ) (us vs : List A) → Stands d xs i us → Stands d xs (i + length us) vs → Stands d xs i (us ++ vs)
  stands_append xs i [] vs h g = stands_moved xs (i + 0) i vs (omega arith) g
  stands_append xs i (u ∷ us) vs h g =
      (h.0, stands_append xs (i + 1) us vs h.1 (stands_moved xs (i + suc (length us)) (i + 1 + length us) vs (omega arith) g))

  pub stands_split : (xs : List A) (i : ℕ) (us vs : List A) → Stands d xs i (us ++ vs) → Stands d xs i us × Stands d xs (i + length us) vs
  stands_split xs i [] vs h = (tt, stands_moved xs i (i + 0) vs (omega arith) h)
  stands_split xs i (u ∷ us) vs h =
      let s = stands_split xs (i + 1) us vs h.1 in
      ((h.0, s.0), stands_moved xs (i + 1 + length us) (i + suc (length us)) vs (omega arith) s.1)

  pub stands_in : (ps us : List A) → Stands d (ps ++ us) (length ps) us
  stands_in ps [] = tt
  stands_in ps (u ∷ us) = (
    get_or_at ps u us d (length ps) refl,
    subst (λ y. Stands d (ps ++ (u ∷ us)) y us) (length_push ps u)
        (subst (λ y. Stands d y (length (ps ++ (u ∷ []))) us) (append_assoc ps (u ∷ []) us) (stands_in (ps ++ (u ∷ [])) us)),
  )

  pub stands_self : (us : List A) → Stands d us 0 us
  stands_self us = stands_in [] us

  pub stands_take : (ts : List A) (i : ℕ) (us : List A) → Stands d ts i us → i + length us ≤ length ts → take (length us) (drop i ts) ≡ us
  stands_take ts i [] h l = refl
  stands_take ts i (u ∷ us) h l =
      ap (take (suc (length us))) (drop_more ts i d (omega arith)) ∙ ap (λ y. y ∷ take (length us) (drop (i + 1) ts)) h.0 ∙ ap (λ y. u ∷ y) (stands_take ts (i + 1) us h.1 (omega arith))

  -- what stands in a list at its start is its front
  pub stands_front : (ts : List A) (us : List A) → Stands d ts 0 us → length us ≤ length ts → ts ≡ us ++ drop (length us) ts
  stands_front ts us h l =
      sym (take-append-drop (length us) ts) ∙ ap (λ y. y ++ drop (length us) ts) (stands_take ts 0 us h (omega arith))
