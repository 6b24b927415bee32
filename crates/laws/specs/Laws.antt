-- What ties the two forms of a sheet, and two runs of its one path.
use Rattle.std.specs.Prelude.{◌≡◌, ℕ, ◌+◌, ◌*◌, Bool, true, false, ◌||◌, ◌⊎◌, List, [], ◌++◌, length, Some, None, Option, slice_index_or}
use Rattle.sheet.specs.Code.{Code, stop, work, literal, choose, repeat, Keeps}
use Rattle.marking.specs.Rules.{Follows}
use Rattle.onepath.specs.Listed.{steps_of}
use Rattle.onepath.specs.declared.steps.Step.TheVariants.{Work, Literal}
use Rattle.run.specs.Values.{Values}
use Rattle.run.specs.Branching.{Out, went, broke, branching}
use Rattle.run.specs.Machine.{State, guard_at, act, is_over, steps, fresh}
use Rattle.laws.specs.Trails.{Simple, trail, enabled}
use Rattle.run.specs.declared.registers.Registers.{Registers}

-- The one path came to what the branching run comes to: to its end, with its cells and nothing latched, or to a
-- break or an end that blames the line at which the branching run breaks. A latch comes before a break.
abbrev pub ComesTo : ℕ → Out → State → Type 0
ComesTo end (went w) s =
    (s.track.place ≡ end) × (s.cells ≡ w) × (s.track.latch ≡ None) × (s.track.broken ≡ None)
ComesTo end (broke l w) s =
    ((s.track.latch ≡ Some l) × ((s.track.place ≡ end) ⊎ ((m : ℕ) × (s.track.broken ≡ Some m)))) ⊎ ((s.track.latch ≡ None) × (s.track.broken ≡ Some l))

-- Agreement: from any cells, whatever is covered, the one path comes to what the branching run comes to.
abbrev pub Agreement : Type 0
Agreement =
    (v : Values) (covered : ℕ → Bool) (cells : ℕ) (code : Code) (w : List ℕ) → Keeps cells 6 code →
    (n : ℕ) × ComesTo (length (steps_of covered 0 0 0 0 code)) (branching v code 0 w) (steps v (steps_of covered 0 0 0 0 code) n (fresh w))

-- the most steps that a run of the code takes, whatever is covered and whatever the cells hold
abbrev pub most_steps : Code → ℕ
most_steps stop = 0
most_steps (work t o a b r) = 1 + most_steps r
most_steps (literal t n r) = 1 + most_steps r
most_steps (choose x p q r) = 2 + most_steps p + most_steps q + most_steps r
most_steps (repeat x n p r) = 2 + n * (2 + most_steps p) + most_steps r

-- Ending: from any cells, whatever is covered, the one path is over after so many steps.
abbrev pub Ending : Type 0
Ending =
    (v : Values) (covered : ℕ → Bool) (cells : ℕ) (code : Code) (w : List ℕ) → Keeps cells 6 code →
    let ts = steps_of covered 0 0 0 0 code in
    is_over (length ts) (steps v ts (most_steps code) (fresh w)) ≡ true

-- Order: over a whole run the one path goes over the simple lines that the branching run goes over, in the same
-- order, and over no others unless the branching run breaks.
abbrev pub Order : Type 0
Order =
    (v : Values) (covered : ℕ → Bool) (cells : ℕ) (code : Code) (w : List ℕ) → Keeps cells 6 code →
    (rest : List Simple) × (enabled v (steps_of covered 0 0 0 0 code) (most_steps code) (fresh w) ≡ trail v code 0 w ++ rest) × ((u : List ℕ) → branching v code 0 w ≡ went u → rest ≡ [])

-- Disabled: the step of a simple line changes no cell where its guard is no.
abbrev pub Disabled : Type 0
Disabled =
    (v : Values) (k i : ℕ) (r : Registers) (h : Option ℕ) (w : List ℕ) → guard_at r k ≡ false →
    ((t o a b : ℕ) → (act v (Work k t o a b) i r h w).cells ≡ w) × ((t n : ℕ) → (act v (Literal k t n) i r h w).cells ≡ w)

-- the cells that are not covered are alike
abbrev pub Alike : (ℕ → Bool) → List ℕ → List ℕ → Type 0
Alike covered w u = (length w ≡ length u) × ((x : ℕ) → covered x ≡ false → (e : ℕ) → slice_index_or w x e ≡ slice_index_or u x e)

-- Lockstep: two runs of one sheet whose uncovered cells are alike visit the same places, break together at the same
-- line, and keep their uncovered cells alike, whatever the covered cells hold.
abbrev pub Lockstep : Type 0
Lockstep =
    (v : Values) (covered : ℕ → Bool) (code : Code) → Follows ◌||◌ covered [] code → (w u : List ℕ) → Alike covered w u → (n : ℕ) →
    let ts = steps_of covered 0 0 0 0 code in
    let s = steps v ts n (fresh w) in
    let t = steps v ts n (fresh u) in
    (s.track.place ≡ t.track.place) × (s.track.broken ≡ t.track.broken) × Alike covered s.cells t.cells
