use Rattle.std.proofs.Common.{◌≡◌, ◌+◌, ◌-◌, ◌*◌, []}
use Rattle.sheet.specs.Checks.{lines_fault}
use Rattle.sheet.specs.Nests.{opens}
use Rattle.sheet.proofs.checking.check_lines.Given as goal

-- what is left of the lines has the fault of all of them
abbrev pub invariant-loop-i : goal.invariant-loop-i
invariant-loop-i l =
    lines_fault l.h.cells l.bytes (14 + l.h.marked + 8 * l.i) (l.h.lines - l.i) (opens l.nest) ≡ lines_fault l.h.cells l.bytes (14 + l.h.marked) l.h.lines []
