use Rattle.std.proofs.Common.{◌≡◌, map, sym, ap, ◌∙◌, arith}
use Rattle.sheet.proofs.Verdicts.{filled_spans, filled_long}
use Rattle.run.specs.Branching.{branching, out_of}
use Rattle.run.specs.Judging.{cells_of, verdict_of}
use Rattle.run.specs.Values.{kind_of}
use Rattle.run.proofs.Judged.{cells_out, verdict_out}
use Rattle.run.proofs.judging.judge.Goals as goal

pub invariant_of-whole : goal.invariant_of-whole
invariant_of-whole g c =
    let w = c.in_ok-sheet.ensures.reads in
    let p = w.0 in
    let lines = w.2.lines in
    let long = filled_long p c.args.lines.now c.read.new.table w.3 in
    record { ordered = omega arith; inside = omega arith; reads = ∣ (p.code, filled_spans p c.args.lines.now c.read.new.table c.in_ok-sheet.sheet.lines w.3 lines) ∣₁ }

pub returns-clause-judges : goal.returns-clause-judges
returns-clause-judges g c =
    let w = c.in_ok-sheet.ensures.reads in
    let p = w.0 in
    let v = kind_of g.V.Value in
    let spans = filled_spans p c.args.lines.now c.read.new.table c.in_ok-sheet.sheet.lines w.3 w.2.lines in
    let after = map g.V.Value.meaning c.run_block.new.cells in
    let broke = c.err-broke.result in
    let out : out_of broke after ≡ branching v p.code 0 (map g.V.Value.meaning c.args.cells.now) = ap (λ b. out_of b after) c.err-broke.ensures.value ∙ c.run_block.ensures p.code spans in
    let told = c.verdict_in.ensures ∙ verdict_out v c.in_ok-sheet.sheet.verdict broke after ∙ ap (λ x. verdict_of v x (out_of broke after)) w.2.verdict ∙ ap (verdict_of v p.verdict) out in
    (p, w.1, w.3, sym (cells_out broke after) ∙ ap cells_of out, told)
