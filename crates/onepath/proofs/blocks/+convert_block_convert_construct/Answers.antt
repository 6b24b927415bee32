use Rattle.std.proofs.Common.{◌+◌, ap, ◌*◌, ◌≤◌, length, sym, ◌∙◌, subst, arith}
use Rattle.sheet.specs.Blocks.{Heads, lines_in}
use Rattle.sheet.specs.declared.block.Construct.TheVariants.{If, Loop}
use Rattle.onepath.specs.Cover.{covered_in}
use Rattle.onepath.specs.Put.{put_if, put_loop, past_end}
use Rattle.onepath.specs.Holds.{ConvertedOne}
use Rattle.onepath.proofs.Parts.{lies_lines}
use Rattle.onepath.proofs.Arms.{none, joined, whole_if, whole_loop}
use Rattle.onepath.proofs.blocks.+convert_block_convert_construct.Goals as goal

pub convert_block-loop-construct-preserved : goal.convert_block-loop-construct-preserved
convert_block-loop-construct-preserved t c =
    let b = c.loop-construct.construct-iterator in
    let e = c.next.new.self in
    let x = c.in-Some.construct in
    let h : Heads b x e = c.in-Some.ensures.steps in
    let lines = lies_lines b.lines.now b.from e.from x h.lies in
    let one = c.convert_construct-place.ensures in
    let inv = c.loop-construct.invariant in (
      h.to ∙ inv.0,
      omega (arith, lines, inv.1),
      omega (arith, lines, h.to, e.ordered, inv.2, one.written.most, one.written.long),
      λ us r d. inv.3 us r (joined _ _ _ b e x h c.loop-construct.steps _ us c.loop-construct.place _ r one d),
    )

pub convert_block-returns : goal.convert_block-returns
convert_block-returns t c =
    let b = c.loop-construct.construct-iterator in
    c.loop-construct.invariant.3 c.loop-construct.steps c.loop-construct.place (none _ _ _ b c.loop-construct.steps c.loop-construct.place c.in-None.ensures.steps.1)

pub convert_construct-returns-in-If : goal.convert_construct-returns-in-If
convert_construct-returns-in-If t c =
    let cov = covered_in c.args.covered.now in
    let k = c.args.around.level in
    let d = c.args.around.loops in
    let i = c.in_if-inner.ensures in
    let x = If c.in-If.cell c.in-If.first c.in-If.second in
    let room : c.args.at + 2 * lines_in x ≤ length c.args.steps.now = subst (λ y. c.args.at + 2 * lines_in y ≤ length c.args.steps.now) c.in-If.is c.requires.room in
    subst (λ y. ConvertedOne cov y k d c.args.steps.now c.put_if.new.steps c.args.at c.convert_block-next.result) (sym c.in-If.is)
    (whole_if cov k d c.args.steps.now _ _ _ c.args.at c.convert_block-mid.result _ c.in-If.cell c.in-If.first c.in-If.second c.is_cell_covered-is_covered.result _ _ room
    c.is_cell_covered-is_covered.ensures i.level i.loops c.convert_block-mid.ensures c.convert_block-next.ensures
    (c.put_if.ensures ∙ ap (λ y. put_if y c.in-If.cell c.args.at c.convert_block-mid.result c.convert_block-next.result c.convert_block-next.new.steps) c.of-form.ensures))

pub convert_construct-returns-in-Loop : goal.convert_construct-returns-in-Loop
convert_construct-returns-in-Loop t c =
    let cov = covered_in c.args.covered.now in
    let k = c.args.around.level in
    let d = c.args.around.loops in
    let i = c.in_loop-inner.ensures in
    let x = Loop c.in-Loop.line c.in-Loop.cell c.in-Loop.bound c.in-Loop.body in
    let room : c.args.at + 2 * lines_in x ≤ length c.args.steps.now = subst (λ y. c.args.at + 2 * lines_in y ≤ length c.args.steps.now) c.in-Loop.is c.requires.room in
    subst (λ y. ConvertedOne cov y k d c.args.steps.now c.put_loop.new.steps c.args.at c.put_loop.result) (sym c.in-Loop.is)
    (whole_loop cov k d c.args.steps.now _ _ c.args.at c.convert_block-mid-in-Loop.result _ c.in-Loop.line c.in-Loop.cell c.in-Loop.bound c.in-Loop.body c.is_loop_covered-is_covered.result _ _ room
    c.is_loop_covered-is_covered.ensures i.level i.loops c.convert_block-mid-in-Loop.ensures
    (c.put_loop.ensures.steps ∙ ap (λ y. put_loop y c.in-Loop.cell c.in-Loop.bound c.in-Loop.line c.args.at c.convert_block-mid-in-Loop.result c.convert_block-mid-in-Loop.new.steps) c.of-form-in-Loop.ensures)
    (c.put_loop.ensures.next ∙ ap (λ y. past_end y (c.convert_block-mid-in-Loop.result + 1)) c.of-form-in-Loop.ensures))
