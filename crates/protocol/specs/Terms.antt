-- What an opening fixes for its round.
use Rattle.std.specs.Prelude.{ℕ, Bool, false, ◌||◌, List, [], ◌∷◌, ◌==◌}
use Rattle.sheet.specs.Layout.{Program}
use Rattle.onepath.specs.Listed.{steps_of}
use Rattle.onepath.specs.declared.steps.Step.{Step}
use Rattle.run.specs.Values.{Values}

pub record Terms : Type 0 where
  pub values : Values
  -- how many cells the sheet has
  pub cells : ℕ
  -- which cells hold the hidden answer, and which of them it can reach
  pub marked : ℕ → Bool
  pub covered : ℕ → Bool
  pub verdict : ℕ
  pub steps : List Step

-- is the cell in the list
abbrev pub is_in : List ℕ → ℕ → Bool
is_in [] x = false
is_in (m ∷ ms) x = x == m || is_in ms x

-- the terms of a program over a kind of values, with these cells covered
abbrev pub terms_for : Values → Program → (ℕ → Bool) → Terms
terms_for v p covered =
    record { values = v; cells = p.cells; marked = is_in p.marks; covered = covered; verdict = p.verdict; steps = steps_of covered 0 0 0 0 p.code }
