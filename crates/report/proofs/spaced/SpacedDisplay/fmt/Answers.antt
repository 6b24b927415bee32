use Rattle.std.proofs.Common.{◌<◌, length, take, Some, codes, sym, subst, arith, rules}
use Rattle.std.specs.Prelude.{IfSome}
use Rattle.std.specs.Fmt.{◌++?◌, HasWritten}
use Rattle.report.specs.Texts.{spaced_output}
use Rattle.report.proofs.Spacing.{spaced_output_more, written_more}
use Rattle.report.proofs.spaced.SpacedDisplay.fmt.Goals as goal

pub loop-item-preserved : goal.loop-item-preserved
loop-item-preserved g c =
    let output = g.T.Display.output in
    let took = g.W.Write.write_str_gives in
    let f = c.args.f.now in
    let items = c.args.self.now.0.now in
    let i = c.loop-item.item-index in
    let item = c.item-item.result in
    let more : i < length items = omega arith in
    λ plain. subst (λ o. IfSome o (λ bs. HasWritten took f bs c.write.new.self)) (sym (spaced_output_more output items i item more c.item-item.is))
    (written_more took f c.loop-item.f c.write.new.self c.write.result (spaced_output output (take i items)) (Some (codes " ") ++? output item) (c.loop-item.invariant plain) c.write.ensures.writes (search rules))
