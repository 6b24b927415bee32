-- The words of a line, taken one after another.
use Rattle.std.specs.Prelude.{◌≡◌, ℕ, List, [], Option}
use Rattle.std.specs.Option.{option_map_or}
use Rattle.std.specs.Str.Iter.{split_whitespace_steps}
use Rattle.std.specs.declared.str.SplitWhitespace.{SplitWhitespace}
use denote.Ref.{Bor}

-- the word comes off the front of what is left; where no word is left, it is empty
abbrev pub Took : SplitWhitespace → List ℕ → SplitWhitespace → Type 0
Took before word after =
    (r : Option (Bor (List ℕ))) × split_whitespace_steps before r after × (word ≡ option_map_or (λ x. x.now) r [])
