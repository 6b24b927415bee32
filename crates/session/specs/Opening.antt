-- What an opening promises.
use Rattle.std.specs.Prelude.{◌≡◌, ℕ, Bool, false, List, length, Ok, Err, Result, slice_index_or}
use Rattle.sheet.specs.Layout.{Program}
use Rattle.sheet.specs.Reading.{Laid, Filled}
use Rattle.sheet.specs.declared.lines.Line.{Line}
use Rattle.onepath.specs.Converting.{covers, Covered, Stepped}
use Rattle.onepath.specs.declared.steps.Step.{Step}
use Rattle.protocol.specs.Terms.{is_in}
use Rattle.protocol.specs.declared.calls.Phase.TheVariants.{Laying}
use Rattle.run.specs.Machine.{at_first}
use Rattle.session.specs.declared.opening.Lent.{Lent}
use Rattle.session.specs.declared.opening.Tables.{Tables as LentTables}
use Rattle.session.specs.declared.faults.OpenFault.{OpenFault}
use Rattle.round.specs.declared.records.Record.{Record}
use Rattle.round.specs.declared.records.Round.{Round}

-- the record of a new round with k tries
pub record New (p : Program) (marks : List Bool) (k : ℕ) (r : Record) : Type 0 where
  pub phase : r.phase ≡ Laying
  pub tries : r.tries ≡ k
  pub cells : r.cells ≡ p.cells
  pub verdict : r.verdict ≡ p.verdict
  pub marked : (x : ℕ) → slice_index_or r.secrets.marked x false ≡ is_in p.marks x
  pub covered : (x : ℕ) → slice_index_or r.secrets.covered x false ≡ covers p marks x
  pub track : r.track ≡ at_first

-- the lines, marks and steps that are lent
pub record Tables : Type 0 where
  pub lines : List Line
  pub marks : List Bool
  pub steps : List Step

abbrev pub tables_of : List Line → List Bool → List Step → Tables
tables_of lines marks steps = record { lines = lines; marks = marks; steps = steps }

-- what the tables hold
abbrev pub holds : LentTables → Tables
holds t = tables_of t.lines.now t.marks.now t.steps.now

-- They are the same loans. Each call says so: no type says what holds of a value at two moments.
abbrev pub SameTables : LentTables → LentTables → Type 0
SameTables t u =
    (u.lines.ghost_name ≡ t.lines.ghost_name) ×
    (u.marks.ghost_name ≡ t.marks.ghost_name) ×
    (u.steps.ghost_name ≡ t.steps.ghost_name)

-- how much is lent with n setter's and m working cells
abbrev pub lent_by : Tables → ℕ → ℕ → Lent
lent_by t n m = record { lines = length t.lines; marks = length t.marks; steps = length t.steps; setter = n; working = m }

-- The tables hold what the program needs, the covered cells are the least set that the rules allow, and the round is
-- a new one of the program, with k tries; n setter's and m working cells are as many as the program has.
pub record Opened (bs : List ℕ) (before after : Tables) (k n m : ℕ) (r : Record) : Type 0 where
  pub program : Program
  pub laid : Laid bs program
  pub filled : Filled program before.lines after.lines
  pub covered : Covered program before.marks after.marks
  pub stepped : Stepped program after.marks before.steps after.steps r.steps
  pub new : New program after.marks k r
  pub setter : n ≡ program.cells
  pub working : m ≡ program.cells

-- A refused opening leaves the tables as they were.
abbrev pub Opens : List ℕ → Tables → Tables → ℕ → ℕ → ℕ → Result Round OpenFault → Type 0
Opens bs before after k n m (Ok r) = Opened bs before after k n m r.at
Opens bs before after k n m (Err f) = after ≡ before
