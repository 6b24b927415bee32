-- The steps that a construct has of its own: first those of a covered construct, at its own level k, then those of
-- an open one. i is a place among the steps, x the condition cell, n the bound, l the loop's line, d its counter.
use Rattle.std.specs.Prelude.{ℕ, Bool, true, false, List, [], ◌∷◌}
use Rattle.onepath.specs.declared.steps.Step.{Step}
use Rattle.onepath.specs.declared.steps.Step.TheVariants.{Ask, Turn, Setout, Narrow, Again, Close, Branch, Jump, Enter, Test}

abbrev pub if_head : Bool → ℕ → ℕ → ℕ → Step
if_head true k x i = Ask k x
if_head false k x i = Branch x i

abbrev pub if_middle : Bool → ℕ → ℕ → Step
if_middle true k i = Turn k
if_middle false k i = Jump i

abbrev pub loop_head : Bool → ℕ → ℕ → Step
loop_head true k d = Setout k
loop_head false k d = Enter d

abbrev pub loop_test : Bool → ℕ → ℕ → ℕ → ℕ → ℕ → ℕ → Step
loop_test true k d x n i l = Narrow k x
loop_test false k d x n i l = Test d x n i l

abbrev pub loop_back : Bool → ℕ → ℕ → ℕ → Step
loop_back true k n i = Again k n i
loop_back false k n i = Jump i

-- a covered loop has one step more after its last
abbrev pub loop_end : Bool → ℕ → ℕ → ℕ → List Step
loop_end true k x l = Close k x l ∷ []
loop_end false k x l = []
