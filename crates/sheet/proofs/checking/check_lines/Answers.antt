use Rattle.std.proofs.Common.{◌≡◌, ◌+◌, ◌-◌, ◌*◌, sym, ap, ◌∙◌, arith}
use Rattle.std.proofs.lemmas.Result.{err_from_is_err_and}
use Rattle.sheet.specs.Checks.{lines_fault}
use Rattle.sheet.specs.Nests.{opens}
use Rattle.sheet.proofs.Chunks.{chunk_stands}
use Rattle.sheet.proofs.Stepping.{line_said, line_bad}
use Rattle.sheet.proofs.checking.check_lines.Goals as goal

pub returns-in_err-nest : goal.returns-in_err-nest
returns-in_err-nest c =
    let p = err_from_is_err_and c.from_residual.result c.from_residual.ensures.1 in
    let i = c.loop-i.i in
    let n = c.args.h.lines in
    rw (p.1, p.2)
    (sym (line_bad c.args.h.cells c.args.bytes.now (14 + c.args.h.marked + 8 * i) (opens c.loop-i.nest) (n - i) (n - (i + 1)) (omega arith) _
    (c.in_err-nest.ensures c.args.bytes.now (chunk_stands c.args.bytes.now (14 + c.args.h.marked) _ c.line_bytes-lines.result.now c.line_bytes-lines.ensures.pieces i c.loop-i-test.true))) ∙ c.loop-i.invariant)

pub loop-i-preserved : goal.loop-i-preserved
loop-i-preserved c =
    let i = c.loop-i.i in
    let n = c.args.h.lines in
    ap (λ y. lines_fault c.args.h.cells c.args.bytes.now y (n - (i + 1)) (opens c.in_ok-nest.nest)) (let e : 14 + c.args.h.marked + 8 * (i + 1) ≡ 14 + c.args.h.marked + 8 * i + 8 = omega arith in e)
    ∙ sym (line_said c.args.h.cells c.args.bytes.now (14 + c.args.h.marked + 8 * i) (opens c.loop-i.nest) (n - i) (n - (i + 1)) (omega arith) _
    (c.in_ok-nest.ensures c.args.bytes.now (chunk_stands c.args.bytes.now (14 + c.args.h.marked) _ c.line_bytes-lines.result.now c.line_bytes-lines.ensures.pieces i c.loop-i-test.true))) ∙ c.loop-i.invariant
