-- The first fault of the bytes of a sheet: the header's fields, the marks, and then line by line, each by rising
-- places; in a line its bytes come before its nesting.
use Rattle.std.specs.Prelude.{ℕ, zero, suc, ◌+◌, ◌*◌, Bool, true, false, cond, List, [], ◌∷◌, length, Some, None, Ok, Err, Option, Result, ◌==◌, nat_le, nat_lt, slice_index}
use Rattle.sheet.specs.Kinds.{kind_of}
use Rattle.sheet.specs.declared.faults.ReadFault.{ReadFault}
use Rattle.sheet.specs.declared.faults.ReadFault.TheVariants.{Short, Limit, Offset, Mark, Byte, Nesting, Table}
use Rattle.sheet.specs.declared.headers.Header.{Header}
use Rattle.sheet.specs.declared.kinds.LineKind.{LineKind}
use Rattle.sheet.specs.declared.kinds.LineKind.TheVariants.{Work, Literal, If, Else, End, Loop}
use Rattle.sheet.specs.declared.nesting.Open.{Open}
use Rattle.sheet.specs.declared.nesting.Open.TheVariants.{First, Second, Body}
use Rattle.sheet.specs.declared.rules.Rule.{Rule}
use Rattle.sheet.specs.declared.rules.Rule.TheVariants.{Cell, Operation, Bound, Any, Zero}

abbrev pub byte_at : List ℕ → ℕ → ℕ
byte_at bs i = slice_index bs i

abbrev pub word_at : List ℕ → ℕ → ℕ
word_at bs i = byte_at bs i + 256 * byte_at bs (i + 1)

-- the fault, unless the test is passed; then whatever comes after
abbrev pub unless : {F : Type 0} → Bool → F → Option F → Option F
unless true f rest = rest
unless false f rest = Some f

-- the first fault of two
abbrev pub or_else : {F : Type 0} → Option F → Option F → Option F
or_else (Some f) rest = Some f
or_else None rest = rest

-- the header's first four numbers
abbrev pub header_of : List ℕ → Header
header_of bs = record { cells = word_at bs 0; marked = word_at bs 2; lines = word_at bs 4; verdict = word_at bs 6 }

abbrev pub limit_fault : Header → Option ReadFault
limit_fault h =
    unless (nat_le 1 h.cells) (Limit 0) (unless (nat_le h.cells 64) (Limit 0)
    (unless (nat_le h.marked h.cells) (Limit 2)
    (unless (nat_le h.lines 512) (Limit 4)
    (unless (nat_lt h.verdict h.cells) (Limit 6) None))))

abbrev pub offset_fault : List ℕ → Header → Option ReadFault
offset_fault bs h =
    let ends = 14 + h.marked + 8 * h.lines in
    unless (word_at bs 8 == 14) (Offset 8)
    (unless (word_at bs 10 == 14 + h.marked) (Offset 10)
    (unless (word_at bs 12 == ends) (Offset 12) (unless (length bs == ends) (Offset 12) None)))

-- the marks from the byte `at` on, n of them, each of which is at least `low`
abbrev pub marks_fault : ℕ → List ℕ → ℕ → ℕ → ℕ → Option ReadFault
marks_fault cells bs low at zero = None
marks_fault cells bs low at (suc n) =
    unless (nat_le low (byte_at bs at)) (Mark at) (unless (nat_lt (byte_at bs at) cells) (Mark at) (marks_fault cells bs (byte_at bs at + 1) (at + 1) n))

-- what each byte of a line of this kind may be, after the byte that names the kind
abbrev pub rules_of : LineKind → List Rule
rules_of Work = Cell ∷ Operation ∷ Cell ∷ Cell ∷ Zero ∷ Zero ∷ Zero ∷ []
rules_of Literal = Cell ∷ Zero ∷ Zero ∷ Any ∷ Any ∷ Any ∷ Any ∷ []
rules_of If = Cell ∷ Zero ∷ Zero ∷ Zero ∷ Zero ∷ Zero ∷ Zero ∷ []
rules_of Else = Zero ∷ Zero ∷ Zero ∷ Zero ∷ Zero ∷ Zero ∷ Zero ∷ []
rules_of End = Zero ∷ Zero ∷ Zero ∷ Zero ∷ Zero ∷ Zero ∷ Zero ∷ []
rules_of Loop = Cell ∷ Bound ∷ Zero ∷ Zero ∷ Zero ∷ Zero ∷ Zero ∷ []

abbrev pub obeys : ℕ → Rule → ℕ → Bool
obeys cells Cell b = nat_lt b cells
obeys cells Operation b = nat_le b 7
obeys cells Bound b = nat_le 1 b
obeys cells Any b = true
obeys cells Zero b = b == 0

-- the bytes from `at` on, each by its rule
abbrev pub bytes_fault : ℕ → List ℕ → ℕ → List Rule → Option ReadFault
bytes_fault cells bs at [] = None
bytes_fault cells bs at (r ∷ rs) = unless (obeys cells r (byte_at bs at)) (Byte at) (bytes_fault cells bs (at + 1) rs)

-- What is open after a line that opens a construct, an else and an end, where `os` is open, the innermost first:
-- nothing deeper than six, an else only in an if that has none yet, an end only in a loop or after an else.
abbrev pub opened : Open → List Open → Option (List Open)
opened o os = cond (nat_lt (length os) 6) (Some (o ∷ os)) None

abbrev pub turned : List Open → Option (List Open)
turned [] = None
turned (First ∷ os) = Some (Second ∷ os)
turned (Second ∷ os) = None
turned (Body ∷ os) = None

abbrev pub closed : List Open → Option (List Open)
closed [] = None
closed (First ∷ os) = None
closed (Second ∷ os) = Some os
closed (Body ∷ os) = Some os

-- what is open after a line of this kind
abbrev pub nested : LineKind → List Open → Option (List Open)
nested Work os = Some os
nested Literal os = Some os
nested If os = opened First os
nested Else os = turned os
nested End os = closed os
nested Loop os = opened Body os

-- a line at the byte `at`: what is open after it, or its fault
abbrev pub placed : ℕ → Option (List Open) → Result (List Open) ReadFault
placed at None = Err (Nesting at)
placed at (Some os) = Ok os

abbrev pub faulted : Option ReadFault → Result (List Open) ReadFault → Result (List Open) ReadFault
faulted (Some f) rest = Err f
faulted None rest = rest

abbrev pub kinded : ℕ → List ℕ → ℕ → List Open → Option LineKind → Result (List Open) ReadFault
kinded cells bs at os None = Err (Byte at)
kinded cells bs at os (Some kind) = faulted (bytes_fault cells bs (at + 1) (rules_of kind)) (placed at (nested kind os))

abbrev pub line_says : ℕ → List ℕ → ℕ → List Open → Result (List Open) ReadFault
line_says cells bs at os = kinded cells bs at os (kind_of (byte_at bs at))

-- the lines from the byte `at` on, n of them
abbrev pub lines_fault : ℕ → List ℕ → ℕ → ℕ → List Open → Option ReadFault
lines_fault cells bs at zero [] = None
lines_fault cells bs at zero (o ∷ os) = Some (Nesting at)
lines_fault cells bs at (suc n) os = elim (line_says cells bs at os) [ Ok os' ↦ lines_fault cells bs (at + 8) n os' | Err f ↦ Some f ]

-- the first fault of a sheet
abbrev pub sheet_fault : List ℕ → Option ReadFault
sheet_fault bs =
    let h = header_of bs in
    unless (nat_le 14 (length bs)) Short
    (or_else (limit_fault h)
    (or_else (offset_fault bs h)
    (or_else (marks_fault h.cells bs 0 14 h.marked)
    (lines_fault h.cells bs (14 + h.marked) h.lines []))))

-- of a sheet that is to fill a line table of n lines
abbrev pub read_fault : List ℕ → ℕ → Option ReadFault
read_fault bs n = or_else (sheet_fault bs) (unless (nat_le (word_at bs 4) n) Table None)
