-- The smallest digit of a set.
use Rattle.std.specs.Prelude.{ℕ, cond, List, [], ◌∷◌, map}
use Rattle.std.specs.List.{range_with_len}
use Rattle.value.specs.Sets.{has, only}

-- the first of the digits that is in the set, alone; the empty set where none is
abbrev pub first_in : ℕ → List ℕ → ℕ
first_in s [] = 0
first_in s (d ∷ ds) = cond (has s d) (only d) (first_in s ds)

abbrev pub nine_digits : List ℕ
nine_digits = 1 ∷ 2 ∷ 3 ∷ 4 ∷ 5 ∷ 6 ∷ 7 ∷ 8 ∷ 9 ∷ []

unfoldable pub smallest_of : ℕ → ℕ
smallest_of s = first_in s nine_digits

-- the smallest digit of each set, from the empty set on
abbrev pub every_smallest : List ℕ
every_smallest = map (λ s. first_in s nine_digits) (range_with_len 0 512)
