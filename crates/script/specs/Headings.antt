-- The names of headings, and which a text owes.
use Rattle.std.specs.Prelude.{ℕ, ◌+◌, Bool, List, Some, None, Option, codes, is_some, if◌then◌else◌}
use Rattle.script.specs.declared.headings.Heading.{Heading}
use Rattle.script.specs.declared.headings.Heading.TheVariants.{Sheet, Kind, Tries, Cells, Watch, Tables, Working, Answers}
use Rattle.script.specs.declared.headings.Headings.{Headings}
use Rattle.script.specs.declared.headings.ValueKind.{ValueKind}
use Rattle.script.specs.declared.headings.ValueKind.TheVariants.{Numbers, Sets}

abbrev pub heading_name : Heading → List ℕ
heading_name Sheet = codes "sheet"
heading_name Kind = codes "kind"
heading_name Tries = codes "tries"
heading_name Cells = codes "cells"
heading_name Watch = codes "watch"
heading_name Tables = codes "tables"
heading_name Working = codes "working"
heading_name Answers = codes "answers"

-- which line of the heading is one too many
abbrev pub count_refused : Heading → List ℕ
count_refused Sheet = codes "second"
count_refused Kind = codes "second"
count_refused Tries = codes "second"
count_refused Cells = codes "third"
count_refused Watch = codes "second"
count_refused Tables = codes "second"
count_refused Working = codes "second"
count_refused Answers = codes "second"

abbrev pub kind_name : ValueKind → List ℕ
kind_name Numbers = codes "numbers"
kind_name Sets = codes "sets"

-- the first heading that a text owes and that is not there
abbrev pub missing_heading : Headings → Option Heading
missing_heading h =
    if is_some h.sheet then
    (if is_some h.kind then
    (if is_some h.tries then
    (if is_some h.first then
    (if is_some h.watch then None else Some Watch)
    else Some Cells)
    else Some Tries)
    else Some Kind)
    else Some Sheet

-- is another line of the heading one too many
abbrev pub is_full : Headings → Heading → Bool
is_full h Sheet = is_some h.sheet
is_full h Kind = is_some h.kind
is_full h Tries = is_some h.tries
is_full h Cells = is_some h.second
is_full h Watch = is_some h.watch
is_full h Tables = is_some h.tables
is_full h Working = is_some h.working
is_full h Answers = is_some h.answers

abbrev pub lines_in : {A : Type 0} → Option A → ℕ
lines_in None = 0
lines_in (Some x) = 1

-- how many lines of the heading there are
abbrev pub lines_of : Headings → Heading → ℕ
lines_of h Sheet = lines_in h.sheet
lines_of h Kind = lines_in h.kind
lines_of h Tries = lines_in h.tries
lines_of h Cells = lines_in h.first + lines_in h.second
lines_of h Watch = lines_in h.watch
lines_of h Tables = lines_in h.tables
lines_of h Working = lines_in h.working
lines_of h Answers = lines_in h.answers
