use Rattle.std.proofs.Common.{◌≡◌, ◌+◌, ◌*◌, ◌≤◌, take, drop, sym, subst, arith}
use Rattle.sheet.specs.Code.{Keeps}
use Rattle.sheet.proofs.Verdicts.{laid_cells, filled_spans, filled_long}
use Rattle.marking.specs.Rules.{Least}
use Rattle.marking.specs.Spread.{marking}
use Rattle.marking.proofs.least.least_marking.Goals as goal

pub invariant_of-whole : goal.invariant_of-whole
invariant_of-whole g c =
    let w = c.in_ok-sheet.ensures.reads in
    let p = w.0 in
    let lines = w.2.lines in
    let long = filled_long p c.args.lines.now c.read.new.table w.3 in
    record { ordered = omega arith; inside = omega arith; reads = ∣ (p.code, filled_spans p c.args.lines.now c.read.new.table c.in_ok-sheet.sheet.lines w.3 lines) ∣₁ }

pub mark_lines-passes-requires-clause-reads : goal.mark_lines-passes-requires-clause-reads
mark_lines-passes-requires-clause-reads g c =
    let w = c.in_ok-sheet.ensures.reads in
    let p = w.0 in
    (p.code, 6, filled_spans p c.args.lines.now c.read.new.table c.in_ok-sheet.sheet.lines w.3 w.2.lines, subst (λ n. Keeps n 6 p.code) (sym w.2.cells) w.1.lawful.keeps)

pub returns-clause-marks : goal.returns-clause-marks
returns-clause-marks g c =
    let w = c.in_ok-sheet.ensures.reads in
    let f = c.in_ok-check_tables.ensures.fits in
    let p = w.0 in
    let s = c.in_ok-sheet.sheet in
    let m = c.mark_lines-passes.ensures in
    let after = c.mark_lines-passes.new.marks in
    let cells = w.2.cells in
    let same = laid_cells c.args.bytes.now p w.1 in
    let same' = laid_cells c.args.bytes.now f.program f.laid in
    let room = f.cells in
    let least = m.least p.code (filled_spans p c.args.lines.now c.read.new.table s.lines w.3 w.2.lines) in (
      p,
      w.1,
      w.2,
      w.3,
      record {
        least = subst (λ n. Least g.M.Mark.joined g.M.Mark.owned (marking g.M.Mark.unmarked (take n after)) p.marks p.code) cells
            (subst (λ ms. Least g.M.Mark.joined g.M.Mark.owned (marking g.M.Mark.unmarked (take s.cells after)) ms p.code) w.2.marks least);
        rest = subst (λ n. drop n after ≡ drop n c.args.marks.now) cells m.rest;
        long = m.long;
        room = omega arith;
        few = subst (λ n. c.mark_lines-passes.result ≤ g.M.Mark.height * n + 1) cells m.passes;
      },
    )
