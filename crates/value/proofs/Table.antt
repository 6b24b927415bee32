-- The table of the smallest digits follows its rule at each set.
use Rattle.std.proofs.Common.{◌≡◌, ℕ, ◌<◌, ◌≤◌, Bool, false, cond, ◌&&◌, List, map, get_or, sym, refl, ap, ◌∙◌, arith, lit<}
use Rattle.std.specs.List.{range_with_len}
use Rattle.std.proofs.lemmas.List.FromFn.{get_or-map-range_with_len}
use Rattle.std.proofs.lemmas.Bool.{cond_both}
use Rattle.value.specs.Sets.{has, only}
use Rattle.value.specs.Membership.{none_below}
use Rattle.value.specs.Smallest.{first_in, nine_digits, smallest_of, every_smallest}
use Rattle.value.proofs.Cases.{each_digit}

pub at_table : (s : ℕ) → s < 512 → get_or every_smallest s 0 ≡ smallest_of s
unfolding smallest_of
at_table s h = get_or-map-range_with_len (λ x. first_in x nine_digits) 0 512 s s 0 h (omega arith)

either : (s d rest : ℕ) → only d < 512 → rest < 512 → cond (has s d) (only d) rest < 512
either s d rest h k = cond_both (has s d) (only d) rest (λ x. x < 512) (λ _. h) (λ _. k)

pub smallest_below : (s : ℕ) → smallest_of s < 512
unfolding smallest_of
smallest_below s =
    either s 1 _ (lit< tt) (either s 2 _ (lit< tt) (either s 3 _ (lit< tt) (either s 4 _ (lit< tt) (either s 5 _ (lit< tt)
    (either s 6 _ (lit< tt) (either s 7 _ (lit< tt) (either s 8 _ (lit< tt) (either s 9 0 (lit< tt) (lit< tt)))))))))

-- at each set, which antt computes: a digit is the smallest where it is in the set and none below it is
smallest_column : (d : ℕ) → 1 ≤ d → d ≤ 9
    → map (λ s. has (smallest_of s) d) (range_with_len 0 512) ≡ map (λ s. has s d && none_below s d) (range_with_len 0 512)
unfolding smallest_of
smallest_column =
    each_digit (λ d. map (λ s. has (smallest_of s) d) (range_with_len 0 512) ≡ map (λ s. has s d && none_below s d) (range_with_len 0 512))
    refl refl refl refl refl refl refl refl refl

pub smallest_has : (a d : ℕ) → a < 512 → 1 ≤ d → d ≤ 9 → has (smallest_of a) d ≡ (has a d && none_below a d)
smallest_has a d h lo hi =
    sym (get_or-map-range_with_len (λ s. has (smallest_of s) d) 0 512 a a false h (omega arith))
    ∙ ap (λ (xs : List Bool). get_or xs a false) (smallest_column d lo hi)
    ∙ get_or-map-range_with_len (λ s. has s d && none_below s d) 0 512 a a false h (omega arith)
