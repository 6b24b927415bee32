use Rattle.std.proofs.Common.{◌+◌, ◌-◌, drop, sym, ap, ◌∙◌, arith}
use Rattle.std.proofs.lemmas.List.{get_or-take, get_or-drop}
use Rattle.sheet.proofs.Stepping.{mark_next, mark_bad}
use Rattle.sheet.proofs.checking.check_marks.Goals as goal

pub returns-then-not-may_follow : goal.returns-then-not-may_follow
returns-then-not-may_follow c =
    let i = c.loop-i.i in
    let m = c.args.h.marked in
    let bs = c.args.bytes.now in
    sym (mark_bad c.args.h.cells bs (14 + i) c.loop-i.low _ (m - i) (m - (i + 1)) (omega arith) (get_or-take (14 + m - 14) (drop 14 bs) i 0 (omega arith) ∙ get_or-drop 14 bs i 0)
    (sym c.if-not-may_follow.ensures)) ∙ c.loop-i.invariant

pub loop-i-preserved : goal.loop-i-preserved
loop-i-preserved c =
    let i = c.loop-i.i in
    let m = c.args.h.marked in
    let bs = c.args.bytes.now in
    mark_next c.args.h.cells bs (14 + i) c.loop-i.low _ (m - i) (m - (i + 1)) (omega arith) (get_or-take (14 + m - 14) (drop 14 bs) i 0 (omega arith) ∙ get_or-drop 14 bs i 0)
    (c.from-low.result + 1) (14 + (i + 1)) (ap (λ y. y + 1) c.from-low.ensures) (omega arith) (sym c.if-not-may_follow.ensures)
    ∙ c.loop-i.invariant
