use Rattle.std.proofs.Common.{◌≡◌, ◌+◌, ◌-◌}
use Rattle.sheet.specs.Checks.{marks_fault}
use Rattle.sheet.proofs.checking.check_marks.Given as goal

-- what is left of the marks has the fault of all of them
abbrev pub invariant-loop-i : goal.invariant-loop-i
invariant-loop-i l =
    marks_fault l.h.cells l.bytes l.low (14 + l.i) (l.h.marked - l.i) ≡ marks_fault l.h.cells l.bytes 0 14 l.h.marked
