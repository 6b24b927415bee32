-- What marking a sheet promises.
use Rattle.std.specs.Prelude.{◌≡◌, ℕ, ◌+◌, ◌*◌, ◌≤◌, List, length, take, drop, Ok, Err, Result}
use Rattle.sheet.specs.Code.{size_of}
use Rattle.sheet.specs.Layout.{Program}
use Rattle.sheet.specs.Reading.{Laid, Tells, Filled}
use Rattle.sheet.specs.declared.headers.Sheet.{Sheet}
use Rattle.sheet.specs.declared.lines.Line.{Line}
use Rattle.marking.specs.Rules.{Least}
use Rattle.marking.specs.Spread.{marking}
use Rattle.marking.specs.declared.faults.MarkFault.{MarkFault}
use Rattle.marking.specs.declared.marked.Marked.{Marked}

-- tables of so many lines and marks have room for the program's
pub record Fits (bs : List ℕ) (n m : ℕ) (s : Sheet) : Type 0 where
  pub program : Program
  pub laid : Laid bs program
  pub tells : Tells program s
  pub lines : size_of program.code ≤ n
  pub cells : program.cells ≤ m

-- The mark table holds the program's least marking, in its first places, and its rest is as it was. A kind of mark
-- is given by its join, its own marks, the mark "none" and its height.
pub record MarkedBy {M : Type 0} (join : M → M → M) (own : ℕ → M) (none : M) (height : ℕ) (p : Program) (before after : List M) (passes : ℕ) : Type 0 where
  pub least : Least join own (marking none (take p.cells after)) p.marks p.code
  pub rest : drop p.cells after ≡ drop p.cells before
  pub long : length after ≡ length before
  pub room : p.cells ≤ length before
  pub few : passes ≤ height * p.cells + 1

-- A sheet is marked exactly where it is read and the mark table has room for its cells; else both tables are as
-- they were.
abbrev pub Marks : {M : Type 0} → (M → M → M) → (ℕ → M) → M → ℕ → List ℕ → List Line → List Line → List M → List M → Result Marked MarkFault → Type 0
Marks join own none height bs lines lines' marks marks' (Ok r) =
    (p : Program) × Laid bs p × Tells p r.sheet × Filled p lines lines' × MarkedBy join own none height p marks marks' r.passes
Marks join own none height bs lines lines' marks marks' (Err f) = (lines' ≡ lines) × (marks' ≡ marks)
