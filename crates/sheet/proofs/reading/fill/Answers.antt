use Rattle.std.proofs.Common.{◌≡◌, ◌+◌, length, ap, arith}
use Rattle.sheet.specs.Code.{size_of}
use Rattle.sheet.proofs.Verdicts.{laid_begins, laid_long, laid_lines, laid_marked, table_filled}
use Rattle.sheet.proofs.reading.fill.Goals as goal

pub fill_block-requires : goal.fill_block-requires
fill_block-requires c =
    let w = c.requires in
    let s = c.args.sheet in
    let ls = c.line_bytes.result.now in
    let marks : length s.marks.now ≡ length w.0.marks = ap length w.2.marks in
    let long = laid_long c.args.bytes.now w.0 w.1 in
    let n : length ls ≡ size_of w.0.code = omega arith in
    let room = w.3 in
    record { code = (w.0.code, laid_begins c.args.bytes.now w.0 w.1 (14 + length s.marks.now) ls (omega arith) n c.line_bytes.ensures.pieces); ordered = omega arith; room = omega arith }

pub returns : goal.returns
returns c p laid =
    let w = c.requires in
    let s = c.args.sheet in
    let bs = c.args.bytes.now in
    let ls = c.line_bytes.result.now in
    let marks : length s.marks.now ≡ length w.0.marks = ap length w.2.marks in
    let m = laid_marked bs w.0 w.1 in
    let m' = laid_marked bs p laid in
    let l = laid_lines bs w.0 w.1 in
    let l' = laid_lines bs p laid in
    let long = laid_long bs p laid in
    let n : length ls ≡ size_of p.code = omega arith in
    let room = w.3 in
    table_filled ls c.fill_block.result p c.args.table.now c.fill_block.new.table (omega arith)
    (laid_begins bs p laid (14 + length s.marks.now) ls (omega arith) n c.line_bytes.ensures.pieces) c.fill_block.ensures
