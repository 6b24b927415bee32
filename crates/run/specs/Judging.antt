-- What judging a sheet promises.
use Rattle.std.specs.Prelude.{◌≡◌, ℕ, cond, List, map, Some, None, Ok, Err, Option, Result}
use Rattle.sheet.specs.Layout.{Program}
use Rattle.sheet.specs.Reading.{Laid, Filled}
use Rattle.sheet.specs.declared.lines.Line.{Line}
use Rattle.value.specs.declared.kinds.Value.{Ghosts}
use Rattle.run.specs.Values.{Values, kind_of, is_true}
use Rattle.run.specs.Branching.{Out, went, broke, branching}
use Rattle.run.specs.Machine.{State}
use Rattle.run.specs.declared.faults.RunFault.{RunFault}
use Rattle.run.specs.declared.verdicts.Verdict.{Verdict}
use Rattle.run.specs.declared.verdicts.Verdict.TheVariants.{Right, Wrong, Void}

-- the cells with which a run ends
abbrev pub cells_of : Out → List ℕ
cells_of (went w) = w
cells_of (broke l w) = w

-- void if it broke, else right or wrong by the verdict cell's truth
abbrev pub verdict_of : Values → ℕ → Out → Verdict
verdict_of v x (went w) = cond (is_true v w x) Right Wrong
verdict_of v x (broke l w) = Void l

-- The line that a run of the one path blames: the latched one, else that at which it broke.
abbrev pub blamed : Option ℕ → Option ℕ → Option ℕ
blamed (Some l) b = Some l
blamed None b = b

abbrev pub verdict_by : Values → ℕ → List ℕ → Option ℕ → Verdict
verdict_by v x w (Some l) = Void l
verdict_by v x w None = cond (is_true v w x) Right Wrong

-- what a run of the one path that is over comes to
abbrev pub path_verdict : Values → ℕ → State → Verdict
path_verdict v x s = verdict_by v x s.cells (blamed s.track.latch s.track.broken)

-- A sheet is judged exactly where it is read and there are as many cells as it has: the verdict is what its
-- branching run from these cells comes to, and the cells are those with which that run ends. Else nothing is moved.
abbrev pub Judges : {V : Type 0} → Ghosts V → List ℕ → List Line → List Line → List V → List V → Result Verdict RunFault → Type 0
Judges g bs lines lines' cells cells' (Ok r) =
    let v = kind_of g in
    let f = g.meaning in
    (p : Program) × Laid bs p × Filled p lines lines' ×
    (map f cells' ≡ cells_of (branching v p.code 0 (map f cells))) × (r ≡ verdict_of v p.verdict (branching v p.code 0 (map f cells)))
Judges g bs lines lines' cells cells' (Err f) = (lines' ≡ lines) × (cells' ≡ cells)
