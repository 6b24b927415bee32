-- A fault's number and place in one number.
use Rattle.std.specs.Prelude.{◌≡◌, ℕ, ◌+◌, ◌*◌, List, Some, None, Option}
use Rattle.sheet.specs.Layout.{Program}
use Rattle.sheet.specs.Reading.{Laid}
use Rattle.sheet.specs.Refusals.{number_of, place_of}
use Rattle.sheet.specs.declared.faults.ReadFault.{ReadFault}

abbrev pub answer_of : Option ReadFault → ℕ
answer_of None = 0
answer_of (Some f) = number_of f + 256 * place_of f

-- the answer is 0 exactly where the bytes are the layout of a program
pub record Sure (bs : List ℕ) (r : ℕ) : Type 0 where
  pub passes : r ≡ 0 → (p : Program) × Laid bs p
  pub fails : (p : Program) → Laid bs p → r ≡ 0
