-- Lists gone through side by side, up to the end of the shortest one.
use Rattle.std.proofs.Common.{◌≡◌, ℕ, List, [], ◌∷◌, ◌++◌, Option, None, Bor, refl, sym, ap, ◌∙◌, subst, inl, inr, ◌⊎◌}
use Rattle.std.specs.Iterator.Adapters.{zip_first, zip_second}
use Rattle.std.specs.List.{zip}
use Rattle.std.specs.Slice.Iter.{iter_rest}
use Rattle.std.specs.declared.iter.Zip.{Zip}
use Rattle.std.specs.declared.slice.Iter.{Iter}
use Rattle.std.proofs.iter.Yields.{fronts}
use Rattle.std.proofs.lemmas.Iterator.{zips}
use Rattle.std.proofs.lemmas.List.{append-nil, nil_from_length}
use Rattle.std.proofs.lemmas.Slice.Zip.{either_empty_from_Zip}
use Rattle.script.specs.Texts.{call_lines}

-- where a list beside two others gives no more, one of the three is at its end
pub one_of_three_gone : {A B C : Type 0} (s t : Zip (Iter A) (Zip (Iter B) (Iter C))) (r : Option (Bor A × (Bor B × Bor C))) → r ≡ None → zips fronts (zips fronts fronts) s r t →
    (iter_rest (zip_first s) ≡ []) ⊎ ((iter_rest (zip_first (zip_second s)) ≡ []) ⊎ (iter_rest (zip_second (zip_second s)) ≡ []))
one_of_three_gone {A} {B} {C} s t r e p = by (subst (λ o. zips fronts (zips fronts fronts) s o t) e p)
  where
    by : ((u : Iter A) × fronts (zip_first s) None u) ⊎ ((u : Zip (Iter B) (Iter C)) × zips fronts fronts (zip_second s) None u) →
        (iter_rest (zip_first s) ≡ []) ⊎ ((iter_rest (zip_first (zip_second s)) ≡ []) ⊎ (iter_rest (zip_second (zip_second s)) ≡ []))
    by (inl a) = inl (nil_from_length _ a.1.0)
    by (inr b) = inr (either_empty_from_Zip (zip_second s) b.0 None refl b.1)

pub zip-empty : {X Y : Type 0} (xs : List X) → zip {X = Y} xs [] ≡ []
zip-empty [] = refl
zip-empty (x ∷ xs) = refl

pub call_lines-empty : (xs : List (List ℕ)) → call_lines xs [] ≡ []
call_lines-empty [] = refl
call_lines-empty (x ∷ xs) = refl

-- where nothing is left, what is there is all
pub whole : {X : Type 0} (t u rest : List X) → rest ≡ [] → t ++ rest ≡ u → t ≡ u
whole t u rest e h = sym (append-nil t) ∙ ap (λ y. t ++ y) (sym e) ∙ h
