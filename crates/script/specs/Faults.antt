-- The words that faults of a text are printed in.
use Rattle.std.specs.Prelude.{ℕ, ◌+◌, ◌==◌, List, ◌++◌, take, codes, decimal}
use Rattle.std.specs.List.{count_by}
use Rattle.std.specs.Str.Lossy.{utf8_valid_len}
use Rattle.script.specs.Headings.{heading_name, count_refused}
use Rattle.script.specs.declared.faults.Expected.{Expected}
use Rattle.script.specs.declared.faults.Expected.TheVariants.{Text, Line, Call, Needed, NoMore, Number, Byte, Kind, Watcher, Below, End}
use Rattle.script.specs.declared.faults.LineFault.{LineFault}
use Rattle.script.specs.declared.faults.LineFault.TheVariants.{Memory as NoMemory, Unlike}
use Rattle.script.specs.declared.faults.ScriptFault.{ScriptFault}
use Rattle.script.specs.declared.faults.ScriptFault.TheVariants.{Memory, Unreadable}

abbrev pub expected_text : Expected → List ℕ
expected_text Text = codes "text in UTF-8"
expected_text Line = codes "a heading or a call"
expected_text Call = codes "a call"
expected_text (Needed h) = codes "a " ++ (heading_name h ++ codes " line")
expected_text (NoMore h) = codes "no " ++ (count_refused h ++ (codes " " ++ (heading_name h ++ codes " line")))
expected_text Number = codes "a number from 0 to 4294967295"
expected_text Byte = codes "two hexadecimal digits"
expected_text Kind = codes "numbers or sets"
expected_text Watcher = codes "tally, roll or allowance"
expected_text Below = codes "tally or roll"
expected_text End = codes "the end of the line"

abbrev pub fault_text : ℕ → Expected → List ℕ
fault_text line e = codes "line " ++ (decimal line ++ (codes ": expected " ++ expected_text e))

abbrev pub script_fault_text : ScriptFault → List ℕ
script_fault_text Memory = codes "not enough memory"
script_fault_text (Unreadable f) = fault_text f.line f.expected

-- the fault of a text whose line of this number is not taken
abbrev pub fault_at : LineFault → ℕ → ScriptFault
fault_at NoMemory line = Memory
fault_at (Unlike e) line = Unreadable (record { line = line; expected = e })

-- the line, counted from 1, that this byte stands in
abbrev pub line_at : List ℕ → ℕ → ℕ
line_at text at = count_by (λ b. b == 10) (take at text) + 1

-- the fault of a text that is not UTF-8
abbrev pub not_text : List ℕ → ScriptFault
not_text text = Unreadable (record { line = line_at text (utf8_valid_len text); expected = Text })
