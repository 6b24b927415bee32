-- What converting a sheet promises.
use Rattle.std.specs.Prelude.{◌≡◌, ℕ, ◌*◌, ◌≤◌, Bool, true, ◌||◌, List, ◌++◌, length, take, drop, Ok, Err, Result}
use Rattle.sheet.specs.Code.{size_of}
use Rattle.sheet.specs.Layout.{Program}
use Rattle.sheet.specs.Reading.{Laid, Tells, Filled}
use Rattle.sheet.specs.declared.headers.Sheet.{Sheet}
use Rattle.sheet.specs.declared.lines.Line.{Line}
use Rattle.marking.specs.Rules.{Least}
use Rattle.onepath.specs.Cover.{covered_in}
use Rattle.onepath.specs.Listed.{steps_of}
use Rattle.onepath.specs.declared.faults.ConvertFault.{ConvertFault}
use Rattle.onepath.specs.declared.paths.OnePath.{OnePath}
use Rattle.onepath.specs.declared.steps.Step.{Step}

-- tables of so many lines, marks and steps have room for what the program needs
pub record Fits (bs : List ℕ) (n m k : ℕ) (s : Sheet) : Type 0 where
  pub program : Program
  pub laid : Laid bs program
  pub tells : Tells program s
  pub lines : size_of program.code ≤ n
  pub cells : program.cells ≤ m
  pub steps : 2 * size_of program.code ≤ k

-- which of the program's cells the mark table says are covered
abbrev pub covers : Program → List Bool → ℕ → Bool
covers p marks = covered_in (take p.cells marks)

-- the mark table covers the least set of cells that the rules allow, and its rest is as it was
pub record Covered (p : Program) (before after : List Bool) : Type 0 where
  pub least : Least ◌||◌ (λ _. true) (covers p after) p.marks p.code
  pub rest : drop p.cells after ≡ drop p.cells before
  pub long : length after ≡ length before

-- the step table begins with the program's steps, no more than two a line, and its rest is as it was
pub record Stepped (p : Program) (marks : List Bool) (before after : List Step) (n : ℕ) : Type 0 where
  pub steps : after ≡ steps_of (covers p marks) 0 0 0 0 p.code ++ drop n before
  pub number : n ≡ length (steps_of (covers p marks) 0 0 0 0 p.code)
  pub most : n ≤ 2 * size_of p.code

-- A sheet is converted exactly where it is read and the tables have room for it; else the tables are as they were.
abbrev pub Converts : List ℕ → List Line → List Line → List Bool → List Bool → List Step → List Step → Result OnePath ConvertFault → Type 0
Converts bs lines lines' marks marks' steps steps' (Ok r) =
    (p : Program) × Laid bs p × Tells p r.sheet × Filled p lines lines' × Covered p marks marks' × Stepped p marks' steps steps' r.steps
Converts bs lines lines' marks marks' steps steps' (Err f) = (lines' ≡ lines) × (marks' ≡ marks) × (steps' ≡ steps)
