use Rattle.std.proofs.Common.{◌+◌, ◌<◌, length, Some, sym, ap, ◌∙◌, ⊎_elim, arith, rules}
use Rattle.std.proofs.lemmas.List.{length-set}
use Rattle.sheet.specs.Filling.{line_byte}
use Rattle.sheet.specs.declared.kinds.LineKind.TheVariants.{Work, Literal}
use Rattle.sheet.proofs.Stepping.{byte_of_kind}
use Rattle.sheet.proofs.Blocks.{has_if, has_loop, has_none, at_end}
use Rattle.sheet.proofs.Filled.{filled_none, filled_then, stepped_work, stepped_literal, stepped_if, stepped_loop, if_middle_lem, if_end, loop_end_lem}
use Rattle.sheet.proofs.filling.+fill_block_fill_if_fill_loop.Goals as goal

-- a line or a construct of the block, and then the lines that are left

pub fill_block-loop-i-preserved-in-Work : goal.fill_block-loop-i-preserved-in-Work
fill_block-loop-i-preserved-in-Work t c =
    let ls = c.args.lines.now in let i = c.loop-i.i in let b = c.loop-i.invariant.3 in
    let s = stepped_work ls i c.loop-i-test.true c.loop-i.table (omega arith) (byte_of_kind (line_byte ls i 0) Work (sym c.in-Ok.ensures ∙ ap Some c.in-Work.is)) in
    let w = s.onward b.0 b.1 in
    (omega arith, omega arith, s.long ∙ c.loop-i.invariant.2, (w.rest, w.begins), λ vs r d. c.loop-i.invariant.4 vs r (filled_then ls i (i + 1) r c.loop-i.table _ vs b s d))

pub fill_block-loop-i-preserved-in-Literal : goal.fill_block-loop-i-preserved-in-Literal
fill_block-loop-i-preserved-in-Literal t c =
    let ls = c.args.lines.now in let i = c.loop-i.i in let b = c.loop-i.invariant.3 in
    let s = stepped_literal ls i c.loop-i-test.true c.loop-i.table (omega arith) c.number.result c.number.ensures
    (byte_of_kind (line_byte ls i 0) Literal (sym c.in-Ok.ensures ∙ ap Some c.in-Literal.is)) in
    let w = s.onward b.0 b.1 in
    (omega arith, omega arith, s.long ∙ c.loop-i.invariant.2, (w.rest, w.begins), λ vs r d. c.loop-i.invariant.4 vs r (filled_then ls i (i + 1) r c.loop-i.table _ vs b s d))

pub fill_block-loop-i-preserved-in-If : goal.fill_block-loop-i-preserved-in-If
fill_block-loop-i-preserved-in-If t c =
    let ls = c.args.lines.now in let i = c.loop-i.i in let b = c.loop-i.invariant.3 in
    let s = c.fill_if-i.ensures in
    let w = s.onward b.0 b.1 in
    let l₁ = s.further in
    let l₂ = w.begins.within in
    (omega arith, omega arith, s.long ∙ c.loop-i.invariant.2, (w.rest, w.begins), λ vs r d. c.loop-i.invariant.4 vs r (filled_then ls i c.fill_if-i.result r c.loop-i.table _ vs b s d))

pub fill_block-loop-i-preserved : goal.fill_block-loop-i-preserved
fill_block-loop-i-preserved t c =
    let ls = c.args.lines.now in let i = c.loop-i.i in let b = c.loop-i.invariant.3 in
    let s = c.fill_loop-i.ensures in
    let w = s.onward b.0 b.1 in
    let l₁ = s.further in
    let l₂ = w.begins.within in
    (omega arith, omega arith, s.long ∙ c.loop-i.invariant.2, (w.rest, w.begins), λ vs r d. c.loop-i.invariant.4 vs r (filled_then ls i c.fill_loop-i.result r c.loop-i.table _ vs b s d))

pub fill_block-returns : goal.fill_block-returns
fill_block-returns t c =
    c.loop-i.invariant.4 c.loop-i.table c.loop-i.i (filled_none c.args.lines.now c.loop-i.i c.loop-i.table (at_end c.args.lines.now c.loop-i.i (omega arith)))

pub fill_block-returns-in_default : goal.fill_block-returns-in_default
fill_block-returns-in_default t c =
    let ls = c.args.lines.now in let i = c.loop-i.i in
    let none = c.in_default.ensures in
    c.loop-i.invariant.4 c.loop-i.table i
    (filled_none ls i c.loop-i.table (λ d b. has_none ls i c.loop-i-test.true d b (λ e. cc) (λ e. cc) (λ e. cc) (λ e. cc)))

pub fill_block-returns-in-Else : goal.fill_block-returns-in-Else
fill_block-returns-in-Else t c =
    let ls = c.args.lines.now in let i = c.loop-i.i in
    let named = c.in-Ok.ensures in
    c.loop-i.invariant.4 c.loop-i.table i
    (filled_none ls i c.loop-i.table (λ d b.
    ⊎_elim (λ is. has_none ls i c.loop-i-test.true d b (λ e. cc) (λ e. cc) (λ e. cc) (λ e. cc))
    (λ is. has_none ls i c.loop-i-test.true d b (λ e. cc) (λ e. cc) (λ e. cc) (λ e. cc)) c.in-Else.is))

-- an if

pub fill_if-fill_block-middle-requires : goal.fill_if-fill_block-middle-requires
fill_if-fill_block-middle-requires t c =
    let v = has_if c.args.lines.now c.args.from c.requires.ordered c.requires.code.0 c.requires.code.1 c.requires.kind in
    (omega (arith, c.decreases), ((v.first, v.begins_first), (omega arith, c.requires.room)))

pub fill_if-overflow_add-middle : goal.fill_if-overflow_add-middle
fill_if-overflow_add-middle t c =
    let m = if_middle_lem c.args.lines.now c.args.from c.requires.ordered c.requires.code.0 c.requires.code.1 c.args.table.now c.fill_block-middle.new.table c.fill_block-middle.result c.fill_block-middle.ensures c.requires.kind in
    let l : c.fill_block-middle.result < length c.args.table.now = omega (arith, m.within) in
    search rules

pub fill_if-fill_block-end-requires : goal.fill_if-fill_block-end-requires
fill_if-fill_block-end-requires t c =
    let m = if_middle_lem c.args.lines.now c.args.from c.requires.ordered c.requires.code.0 c.requires.code.1 c.args.table.now c.fill_block-middle.new.table c.fill_block-middle.result c.fill_block-middle.ensures c.requires.kind in
    let l₁ = m.after in
    let l₂ = m.within in
    (omega (arith, c.decreases), (m.code, (omega arith, omega (arith, c.fill_block-middle.ensures.long))))

pub fill_if-offset_bounds-table-middle : goal.fill_if-offset_bounds-table-middle
fill_if-offset_bounds-table-middle t c =
    let m = if_middle_lem c.args.lines.now c.args.from c.requires.ordered c.requires.code.0 c.requires.code.1 c.args.table.now c.fill_block-middle.new.table c.fill_block-middle.result c.fill_block-middle.ensures c.requires.kind in
    let l : c.fill_block-middle.result < length c.args.table.now = omega (arith, m.within) in
    search rules

pub fill_if-bounds-table-middle : goal.fill_if-bounds-table-middle
fill_if-bounds-table-middle t c =
    let m = if_middle_lem c.args.lines.now c.args.from c.requires.ordered c.requires.code.0 c.requires.code.1 c.args.table.now c.fill_block-middle.new.table c.fill_block-middle.result c.fill_block-middle.ensures c.requires.kind in
    simp length-set (omega (arith, m.within, c.fill_block-middle.ensures.long, c.fill_block-end.ensures.long))

pub fill_if-offset_bounds-table-end : goal.fill_if-offset_bounds-table-end
fill_if-offset_bounds-table-end t c =
    let z = if_end c.args.lines.now c.args.from c.requires.ordered c.requires.code.0 c.requires.code.1 c.args.table.now c.fill_block-middle.new.table c.fill_block-middle.result c.fill_block-middle.ensures c.fill_block-end.new.table c.fill_block-end.result c.fill_block-end.ensures c.requires.kind in
    let l : c.fill_block-end.result < length c.args.table.now = omega (arith, z.1) in
    search rules

pub fill_if-bounds-table-end : goal.fill_if-bounds-table-end
fill_if-bounds-table-end t c =
    let z = if_end c.args.lines.now c.args.from c.requires.ordered c.requires.code.0 c.requires.code.1 c.args.table.now c.fill_block-middle.new.table c.fill_block-middle.result c.fill_block-middle.ensures c.fill_block-end.new.table c.fill_block-end.result c.fill_block-end.ensures c.requires.kind in
    simp length-set (omega (arith, z.1, c.fill_block-middle.ensures.long, c.fill_block-end.ensures.long))

pub fill_if-overflow_add-result : goal.fill_if-overflow_add-result
fill_if-overflow_add-result t c =
    let z = if_end c.args.lines.now c.args.from c.requires.ordered c.requires.code.0 c.requires.code.1 c.args.table.now c.fill_block-middle.new.table c.fill_block-middle.result c.fill_block-middle.ensures c.fill_block-end.new.table c.fill_block-end.result c.fill_block-end.ensures c.requires.kind in
    let l : c.fill_block-end.result < length c.args.table.now = omega (arith, z.1) in
    search rules

pub fill_if-returns : goal.fill_if-returns
fill_if-returns t c =
    let m = if_middle_lem c.args.lines.now c.args.from c.requires.ordered c.requires.code.0 c.requires.code.1 c.args.table.now c.fill_block-middle.new.table c.fill_block-middle.result c.fill_block-middle.ensures c.requires.kind in
    let z = if_end c.args.lines.now c.args.from c.requires.ordered c.requires.code.0 c.requires.code.1 c.args.table.now c.fill_block-middle.new.table c.fill_block-middle.result c.fill_block-middle.ensures c.fill_block-end.new.table c.fill_block-end.result c.fill_block-end.ensures c.requires.kind in
    stepped_if c.args.lines.now c.args.from c.requires.ordered c.args.table.now c.fill_block-middle.new.table c.fill_block-middle.result m.after c.fill_block-middle.ensures
    c.fill_block-end.new.table c.fill_block-end.result z.0 (omega (arith, z.1)) c.fill_block-end.ensures c.requires.kind

-- a loop

pub fill_loop-fill_block-end-requires : goal.fill_loop-fill_block-end-requires
fill_loop-fill_block-end-requires t c =
    let v = has_loop c.args.lines.now c.args.from c.requires.ordered c.requires.code.0 c.requires.code.1 c.requires.kind in
    (omega (arith, c.decreases), ((v.first, v.begins_first), (omega arith, c.requires.room)))

pub fill_loop-offset_bounds-table-end : goal.fill_loop-offset_bounds-table-end
fill_loop-offset_bounds-table-end t c =
    let m = loop_end_lem c.args.lines.now c.args.from c.requires.ordered c.requires.code.0 c.requires.code.1 c.args.table.now c.fill_block-end.new.table c.fill_block-end.result c.fill_block-end.ensures c.requires.kind in
    let l : c.fill_block-end.result < length c.args.table.now = omega (arith, m.within) in
    search rules

pub fill_loop-bounds-table-end : goal.fill_loop-bounds-table-end
fill_loop-bounds-table-end t c =
    let m = loop_end_lem c.args.lines.now c.args.from c.requires.ordered c.requires.code.0 c.requires.code.1 c.args.table.now c.fill_block-end.new.table c.fill_block-end.result c.fill_block-end.ensures c.requires.kind in
    simp length-set (omega (arith, m.within, c.fill_block-end.ensures.long))

pub fill_loop-overflow_add-result : goal.fill_loop-overflow_add-result
fill_loop-overflow_add-result t c =
    let m = loop_end_lem c.args.lines.now c.args.from c.requires.ordered c.requires.code.0 c.requires.code.1 c.args.table.now c.fill_block-end.new.table c.fill_block-end.result c.fill_block-end.ensures c.requires.kind in
    let l : c.fill_block-end.result < length c.args.table.now = omega (arith, m.within) in
    search rules

pub fill_loop-returns : goal.fill_loop-returns
fill_loop-returns t c =
    let m = loop_end_lem c.args.lines.now c.args.from c.requires.ordered c.requires.code.0 c.requires.code.1 c.args.table.now c.fill_block-end.new.table c.fill_block-end.result c.fill_block-end.ensures c.requires.kind in
    stepped_loop c.args.lines.now c.args.from c.requires.ordered c.args.table.now c.fill_block-end.new.table c.fill_block-end.result m.after c.fill_block-end.ensures
    (omega (arith, m.within)) c.requires.kind
