-- Four sheets over numbers, and what each comes to.
use Rattle.std.specs.Prelude.{◌≡◌, ℕ, Bool, true, false, List, [], ◌∷◌, Some, None, Option}
use Rattle.sheet.specs.Code.{Code, stop, work, literal, choose, repeat}
use Rattle.onepath.specs.Cover.{covered_in}
use Rattle.onepath.specs.Listed.{steps_of}
use Rattle.onepath.specs.declared.steps.Step.{Step}
use Rattle.value.specs.Arithmetic.{numbers}
use Rattle.value.specs.Truth.{nonzero}
use Rattle.run.specs.Values.{Values}
use Rattle.run.specs.Branching.{branching}
use Rattle.laws.specs.Laws.{most_steps}
use Rattle.run.specs.Machine.{steps, taken, fresh}
use Rattle.laws.specs.Trails.{Simple, did_work, did_literal, enabled}
use Rattle.run.specs.Judging.{verdict_of, path_verdict}
use Rattle.run.specs.declared.verdicts.Verdict.{Verdict}
use Rattle.run.specs.declared.verdicts.Verdict.TheVariants.{Right, Wrong, Void}

abbrev pub number_kind : Values
number_kind = record { literally = λ n. n; combined = numbers; holds = nonzero }

-- which cells are covered, the verdict cell and the code
pub record Sample : Type 0 where
  pub covered : List Bool
  pub verdict : ℕ
  pub code : Code

-- Is the guess less than the hidden number? Then it is wrong; else it is right when equal.
abbrev pub sheet_a : Sample
sheet_a = record { covered = false ∷ true ∷ true ∷ true ∷ []; verdict = 3; code = work 2 4 0 1 (choose 2 (literal 3 0 stop) (work 3 5 0 1 stop) stop) }

-- counts the hidden number down, three times at most
abbrev pub sheet_b : Sample
sheet_b = record { covered = false ∷ true ∷ true ∷ []; verdict = 2; code = repeat 1 3 (work 1 1 1 0 (work 2 0 2 0 stop)) stop }

-- a loop that never meets its bound, where the hidden number lets it run
abbrev pub sheet_c : Sample
sheet_c = record { covered = false ∷ true ∷ true ∷ []; verdict = 2; code = choose 1 (repeat 0 2 (literal 2 5 stop) stop) stop stop }

-- an open loop that never meets its bound
abbrev pub sheet_d : Sample
sheet_d = record { covered = false ∷ false ∷ []; verdict = 1; code = repeat 0 2 (literal 1 5 stop) stop }

abbrev pub steps_in : Sample → List Step
steps_in s = steps_of (covered_in s.covered) 0 0 0 0 s.code

-- From these cells both forms come to this verdict, and the one path takes so many steps.
abbrev pub Comes : Sample → List ℕ → Verdict → ℕ → Type 0
Comes s w r n =
    let end = steps number_kind (steps_in s) 20 (fresh w) in
    (verdict_of number_kind s.verdict (branching number_kind s.code 0 w) ≡ r) ×
    (path_verdict number_kind s.verdict end ≡ r) ×
    (taken number_kind (steps_in s) 20 (fresh w) ≡ n)

-- From these cells the one path ends at this place with these cells, this latch and this break, and goes over these
-- simple lines.
abbrev pub EndsWith : Sample → List ℕ → ℕ → List ℕ → Option ℕ → Option ℕ → List Simple → Type 0
EndsWith s w place after latch break over =
    let end = steps number_kind (steps_in s) 20 (fresh w) in
    (end.track.place ≡ place) × (end.cells ≡ after) × (end.track.latch ≡ latch) × (end.track.broken ≡ break) × (enabled number_kind (steps_in s) 20 (fresh w) ≡ over)

abbrev pub Examples : Type 0
Examples =
    Comes sheet_a (4 ∷ 9 ∷ 0 ∷ 0 ∷ []) Wrong 5 ×
    Comes sheet_a (9 ∷ 9 ∷ 0 ∷ 0 ∷ []) Right 5 ×
    Comes sheet_a (12 ∷ 9 ∷ 0 ∷ 0 ∷ []) Wrong 5 ×
    Comes sheet_b (1 ∷ 0 ∷ 0 ∷ []) Wrong 14 ×
    Comes sheet_b (1 ∷ 2 ∷ 0 ∷ []) Right 14 ×
    Comes sheet_b (1 ∷ 3 ∷ 0 ∷ []) Right 14 ×
    Comes sheet_b (1 ∷ 4 ∷ 0 ∷ []) (Void 0) 14 ×
    Comes sheet_c (1 ∷ 0 ∷ 0 ∷ []) Wrong 10 ×
    Comes sheet_c (1 ∷ 1 ∷ 0 ∷ []) (Void 1) 10 ×
    Comes sheet_d (1 ∷ 0 ∷ []) (Void 0) 8

-- By these the laws bite: a run whose guards are no (order), two runs that part in covered cells alone, one of them
-- latched (agreement, lockstep), a bound that breaks in an open loop (agreement), and the most steps reached exactly
-- (ending).
abbrev pub Bites : Type 0
Bites =
    EndsWith sheet_b (1 ∷ 0 ∷ 0 ∷ []) 6 (1 ∷ 0 ∷ 0 ∷ []) None None [] ×
    EndsWith sheet_b (1 ∷ 1 ∷ 0 ∷ []) 6 (1 ∷ 0 ∷ 1 ∷ []) None None (did_work 1 1 1 0 ∷ did_work 2 0 2 0 ∷ []) ×
    EndsWith sheet_c (1 ∷ 1 ∷ 0 ∷ []) 7 (1 ∷ 1 ∷ 5 ∷ []) (Some 1) None (did_literal 2 5 ∷ did_literal 2 5 ∷ []) ×
    EndsWith sheet_c (1 ∷ 0 ∷ 0 ∷ []) 7 (1 ∷ 0 ∷ 0 ∷ []) None None [] ×
    EndsWith sheet_d (1 ∷ 0 ∷ []) 1 (1 ∷ 5 ∷ []) None (Some 0) (did_literal 1 5 ∷ did_literal 1 5 ∷ []) ×
    (most_steps sheet_b.code ≡ 14) × (most_steps sheet_c.code ≡ 10) × (most_steps sheet_d.code ≡ 8)
