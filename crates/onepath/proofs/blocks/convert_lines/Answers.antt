use Rattle.std.proofs.Common.{arith}
use Rattle.onepath.specs.Cover.{covered_in}
use Rattle.onepath.proofs.Front.{holds_stand, front_steps}
use Rattle.onepath.proofs.blocks.convert_lines.Goals as goal

pub returns : goal.returns
returns c =
    let d = c.convert_block.ensures in
    let w = d.written in
    let l = c.args.whole.from in
    record {
      listed = λ p h. front_steps (covered_in c.args.covered.now) c.args.steps.now c.convert_block.new.steps 0 0 l c.convert_block.result p (d.holds p h) (omega (arith, w.most, w.long)) w.long w.above;
      number = λ p h. omega (arith, (holds_stand (covered_in c.args.covered.now) c.convert_block.new.steps 0 0 l 0 c.convert_block.result p (d.holds p h)).0);
      most = omega (arith, w.most);
    }
