-- What the reader promises.
use Rattle.std.specs.Prelude.{◌≡◌, ℕ, ◌<◌, ◌≤◌, List, ◌++◌, length, drop, Ok, Err, Result}
use Rattle.sheet.specs.Code.{size_of}
use Rattle.sheet.specs.Table.{lines_of}
use Rattle.sheet.specs.Layout.{Program, Lawful, sheet_bytes}
use Rattle.sheet.specs.declared.faults.ReadFault.{ReadFault}
use Rattle.sheet.specs.declared.headers.Sheet.{Sheet}
use Rattle.sheet.specs.declared.lines.Line.{Line}

-- the bytes are the layout of the program, which keeps the limits
pub record Laid (bs : List ℕ) (p : Program) : Type 0 where
  pub lawful : Lawful p
  pub bytes : bs ≡ sheet_bytes p

-- bytes are the layout of one program only
abbrev pub OneProgram : Type 0
OneProgram = (bs : List ℕ) (p q : Program) → Laid bs p → Laid bs q → p ≡ q

-- the sheet that the reader answers has the program's numbers and marks
pub record Tells (p : Program) (s : Sheet) : Type 0 where
  pub cells : s.cells ≡ p.cells
  pub lines : s.lines ≡ size_of p.code
  pub verdict : s.verdict ≡ p.verdict
  pub marks : s.marks.now ≡ p.marks

-- a sheet is taken exactly where the bytes are the layout of a program
abbrev pub Taken : List ℕ → Result Sheet ReadFault → Type 0
Taken bs (Ok s) = (p : Program) × Laid bs p × Tells p s
Taken bs (Err f) = (p : Program) → Laid bs p → ⊥

-- ... and a table of so many lines has room for the program's
abbrev pub Fits : List ℕ → ℕ → Result Sheet ReadFault → Type 0
Fits bs room (Ok s) = (p : Program) × Laid bs p × Tells p s × (size_of p.code ≤ room)
Fits bs room (Err f) = (p : Program) → Laid bs p → room < size_of p.code

-- the line table begins with the program's lines, and its rest is as it was
pub record Filled (p : Program) (before after : List Line) : Type 0 where
  pub room : size_of p.code ≤ length before
  pub lines : after ≡ lines_of 0 p.code ++ drop (size_of p.code) before

-- A sheet is read exactly where the bytes are the layout of a program that the line table has room for; where
-- it is not, the table is as it was.
abbrev pub Reads : List ℕ → List Line → List Line → Result Sheet ReadFault → Type 0
Reads bs before after (Ok s) = (p : Program) × Laid bs p × Tells p s × Filled p before after
Reads bs before after (Err f) = (after ≡ before) × ((p : Program) → Laid bs p → length before < size_of p.code)
