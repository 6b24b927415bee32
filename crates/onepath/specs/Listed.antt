-- The steps of a sheet's code, as a list.
use Rattle.std.specs.Prelude.{ℕ, ◌+◌, Bool, List, [], ◌∷◌, ◌++◌, length}
use Rattle.sheet.specs.Code.{Code, stop, work, literal, choose, repeat, size_of}
use Rattle.onepath.specs.Cover.{loop_covered, level_in, loops_in}
use Rattle.onepath.specs.Own.{if_head, if_middle, loop_head, loop_test, loop_back, loop_end}
use Rattle.onepath.specs.declared.steps.Step.{Step}
use Rattle.onepath.specs.declared.steps.Step.TheVariants.{Work, Literal}

-- The steps of a block at level k, with d open loops around it, whose first line is l and whose first step is to
-- stand at the place i. A branch or a test that fails goes past the jump, the jump of an if to the place after it,
-- and the last step of a loop's pass back to the first of a pass.
abbrev pub steps_of : (ℕ → Bool) → ℕ → ℕ → ℕ → ℕ → Code → List Step
steps_of covered k d l i stop = []
steps_of covered k d l i (work t o a b r) = Work k t o a b ∷ steps_of covered k d (l + 1) (i + 1) r
steps_of covered k d l i (literal t n r) = Literal k t n ∷ steps_of covered k d (l + 1) (i + 1) r
steps_of covered k d l i (choose x p q r) =
    let b = covered x in
    let own = level_in b k in
    let else = l + 1 + size_of p in
    let end = else + 1 + size_of q in
    let ps = steps_of covered own d (l + 1) (i + 1) p in
    let m = i + 1 + length ps in
    let qs = steps_of covered own d (else + 1) (m + 1) q in
    let j = m + 1 + length qs in
    if_head b own x (m + 1) ∷ (ps ++ (if_middle b own j ∷ (qs ++ steps_of covered k d (end + 1) j r)))
steps_of covered k d l i (repeat x n p r) =
    let b = loop_covered covered k x in
    let own = level_in b k in
    let end = l + 1 + size_of p in
    let ps = steps_of covered own (loops_in b d) (l + 1) (i + 2) p in
    let m = i + 2 + length ps in
    let es = loop_end b own x l in
    let j = m + 1 + length es in
    loop_head b own d ∷ (loop_test b own d x n (m + 1) l ∷ (ps ++ (loop_back b own n (i + 1) ∷ (es ++ steps_of covered k d (end + 1) j r))))
