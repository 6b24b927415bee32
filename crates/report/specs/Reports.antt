-- What the printers write of a sheet.
use Rattle.std.specs.Prelude.{◌≡◌, ℕ, Bool, true, ◌||◌, List, length, Some, None, Option}
use Rattle.sheet.specs.Layout.{Program}
use Rattle.sheet.specs.Reading.{Laid}
use Rattle.marking.specs.Refusals.{mark_fault, number_of as mark_number, place_of as mark_place}
use Rattle.marking.specs.Rules.{Least}
use Rattle.marking.specs.Sets.{no_origins, own_origin, union}
use Rattle.marking.specs.Spread.{marking}
use Rattle.marking.specs.declared.faults.MarkFault.{MarkFault}
use Rattle.marking.specs.declared.origins.Origins.{Origins}
use Rattle.onepath.specs.Cover.{covered_in}
use Rattle.onepath.specs.Listed.{steps_of}
use Rattle.onepath.specs.Refusals.{convert_fault, number_of, place_of}
use Rattle.onepath.specs.declared.faults.ConvertFault.{ConvertFault}
use Rattle.report.specs.Texts.{refusal_line, path_text, origin_lines}

-- the covered cells, which are the least set that the rules allow, and the steps
pub record Tells (bs text : List ℕ) : Type 0 where
  pub program : Program
  pub laid : Laid bs program
  pub covered : List Bool
  pub cells : length covered ≡ program.cells
  pub least : Least ◌||◌ (λ _. true) (covered_in covered) program.marks program.code
  pub says : text ≡ path_text covered (steps_of (covered_in covered) 0 0 0 0 program.code)

-- a sheet's first fault, where it has one
abbrev pub ReportsOf : Option ConvertFault → List ℕ → List ℕ → Type 0
ReportsOf (Some f) bs text = text ≡ refusal_line (number_of f) (place_of f)
ReportsOf None bs text = Tells bs text

abbrev pub Reports : List ℕ → List ℕ → Type 0
Reports bs text = ReportsOf (convert_fault bs 512 64 1024) bs text

-- the origin set of each cell, in the least marking that the rules allow
pub record TellsOrigins (bs text : List ℕ) : Type 0 where
  pub program : Program
  pub laid : Laid bs program
  pub origins : List Origins
  pub cells : length origins ≡ program.cells
  pub least : Least union own_origin (marking no_origins origins) program.marks program.code
  pub says : text ≡ origin_lines 0 origins

abbrev pub OriginsOf : Option MarkFault → List ℕ → List ℕ → Type 0
OriginsOf (Some f) bs text = text ≡ refusal_line (mark_number f) (mark_place f)
OriginsOf None bs text = TellsOrigins bs text

abbrev pub ReportsOrigins : List ℕ → List ℕ → Type 0
ReportsOrigins bs text = OriginsOf (mark_fault bs 512 64) bs text
