-- The words that watchers are printed in.
use Rattle.std.specs.Prelude.{ℕ, List, ◌++◌, codes, decimal}
use Rattle.std.specs.List.{flat_map}

abbrev pub tally_text : ℕ → ℕ → List ℕ
tally_text count latest = codes "tally " ++ (decimal count ++ (codes " latest " ++ decimal latest))

-- the places, each after a space
abbrev pub place_names : List ℕ → List ℕ
place_names = flat_map (λ p. codes " " ++ decimal p)

abbrev pub roll_text : List ℕ → List ℕ
roll_text places = codes "roll" ++ place_names places

abbrev pub allowance_text : ℕ → List ℕ → List ℕ
allowance_text left below = codes "allowance " ++ (decimal left ++ (codes ", " ++ below))
