use Rattle.std.proofs.Common.{◌≡◌, ◌-◌, ◌++◌, length, take, drop, subst, arith}
use Rattle.sheet.proofs.Verdicts.{filled_spans, filled_long}
use Rattle.onepath.specs.Cover.{covered_in}
use Rattle.onepath.specs.Listed.{steps_of}
use Rattle.onepath.proofs.whole.convert.Goals as goal

pub invariant_of-whole : goal.invariant_of-whole
invariant_of-whole c =
    let w = c.in_ok-marked.ensures.marks in
    let p = w.0 in
    let lines = w.2.lines in
    let long = filled_long p c.args.lines.now c.least_marking.new.lines w.3 in
    record { ordered = omega arith; inside = omega arith; reads = ∣ (p.code, filled_spans p c.args.lines.now c.least_marking.new.lines c.in_ok-marked.marked.sheet.lines w.3 lines) ∣₁ }

pub returns-clause-converts : goal.returns-clause-converts
returns-clause-converts c =
    let w = c.in_ok-marked.ensures.marks in
    let p = w.0 in
    let s = c.in_ok-marked.marked.sheet in
    let marks = c.least_marking.new.marks in
    let lines = w.2.lines in
    let cells = w.2.cells in
    let n = c.convert_lines-count.result in
    let spans = filled_spans p c.args.lines.now c.least_marking.new.lines s.lines w.3 lines in
    let v = c.convert_lines-count.ensures in
    let same : s.cells - 0 ≡ p.cells = omega arith in (
      p,
      w.1,
      w.2,
      w.3,
      record { least = w.4.least; rest = w.4.rest; long = w.4.long },
      record {
        steps = subst (λ k. c.convert_lines-count.new.steps ≡ steps_of (covered_in (take k marks)) 0 0 0 0 p.code ++ drop n c.args.steps.now) same (v.listed p.code spans);
        number = subst (λ k. n ≡ length (steps_of (covered_in (take k marks)) 0 0 0 0 p.code)) same (v.number p.code spans);
        most = let m = v.most in omega arith;
      },
    )
