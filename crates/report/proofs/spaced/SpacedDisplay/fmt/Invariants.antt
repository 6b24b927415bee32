use Rattle.std.proofs.Common.{take}
use Rattle.std.specs.Prelude.{IfSome}
use Rattle.std.specs.Fmt.{HasWritten, IsPlainFormatter}
use Rattle.report.specs.Texts.{spaced_output}
use Rattle.report.proofs.spaced.SpacedDisplay.fmt.Given as goal

-- the items so far are written
abbrev pub invariant-loop-item : goal.invariant-loop-item
invariant-loop-item g l =
    IsPlainFormatter l.initial.f → IfSome (spaced_output g.T.Display.output (take l.item-index l.item-items)) (λ bs. HasWritten g.W.Write.write_str_gives l.initial.f bs l.f)
