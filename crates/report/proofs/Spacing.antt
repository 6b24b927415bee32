-- Items that are printed each after a space.
use Rattle.std.proofs.Common.{◌≡◌, ℕ, ◌+◌, ◌<◌, List, [], ◌∷◌, ◌++◌, length, get_or, take, Some, None, Option, Result, codes, refl, sym, ap, ◌∙◌, append-nil}
use Rattle.std.specs.Prelude.{IfSome, IsOk, decimal}
use Rattle.std.specs.Fmt.{◌++?◌, HasWritten, DisplaysOnOk}
use Rattle.std.specs.declared.fmt.Error.{Error}
use Rattle.std.specs.declared.fmt.Formatter.{Formatter}
use Rattle.std.proofs.Output.{has_written_append, then_text_assoc}
use Rattle.std.proofs.lemmas.List.{take_more}
use Rattle.report.specs.Texts.{spaced, spaced_output}

-- where each item says what it prints, so do all of them
pub spaced_output-some : {A : Type 0} (words : A → List ℕ) (xs : List A) → spaced_output (λ x. Some (words x)) xs ≡ Some (spaced words xs)
spaced_output-some words [] = refl
spaced_output-some words (x ∷ xs) = ap (λ y. Some (codes " ") ++? (Some (words x) ++? y)) (spaced_output-some words xs)

-- ... and the numbers are known
pub spaced_output-numbers : (xs ys : List ℕ) → xs ≡ ys → spaced_output (λ x. Some (decimal x)) xs ≡ Some (spaced decimal ys)
spaced_output-numbers xs ys e = spaced_output-some decimal xs ∙ ap (λ y. Some (spaced decimal y)) e

text_end : (o : Option (List ℕ)) → o ++? Some [] ≡ o
text_end None = refl
text_end (Some bs) = ap (λ y. Some y) (append-nil bs)

text_start : (o : Option (List ℕ)) → Some [] ++? o ≡ o
text_start None = refl
text_start (Some bs) = refl

module _ {A : Type 0} (output : A → Option (List ℕ)) where
  spaced_output-append : (xs ys : List A) → spaced_output output (xs ++ ys) ≡ spaced_output output xs ++? spaced_output output ys
  spaced_output-append [] ys = sym (text_start (spaced_output output ys))
  spaced_output-append (x ∷ xs) ys =
      ap (λ y. Some (codes " ") ++? (output x ++? y)) (spaced_output-append xs ys)
      ∙ ap (λ y. Some (codes " ") ++? y) (sym (then_text_assoc (output x) (spaced_output output xs) (spaced_output output ys)))
      ∙ sym (then_text_assoc (Some (codes " ")) (output x ++? spaced_output output xs) (spaced_output output ys))

  -- one more item
  pub spaced_output_more : (xs : List A) (i : ℕ) (x : A) → i < length xs → x ≡ get_or xs i x →
      spaced_output output (take (i + 1) xs) ≡ spaced_output output (take i xs) ++? (Some (codes " ") ++? output x)
  spaced_output_more xs i x l e =
      ap (spaced_output output) (take_more xs i x l ∙ ap (λ y. take i xs ++ y ∷ []) (sym e))
      ∙ spaced_output-append (take i xs) (x ∷ [])
      ∙ ap (λ y. spaced_output output (take i xs) ++? (Some (codes " ") ++? y)) (text_end (output x))

module _ {W : Type 0} (took : W → List ℕ → W → Type 0) where
  -- a text is written, and after it another
  pub written_more : (f g h : Formatter W) (r : Result (Unit {0}) Error) (o p : Option (List ℕ)) → IfSome o (λ bs. HasWritten took f bs g) →
      DisplaysOnOk took g r p h → IsOk r → IfSome (o ++? p) (λ bs. HasWritten took f bs h)
  written_more f g h r None p a b ok = tt
  written_more f g h r (Some x) None a b ok = tt
  written_more f g h r (Some x) (Some y) a b ok = has_written_append took f x g y h a (b a.plain ok)
