use Rattle.std.proofs.Common.{◌≡◌, ◌+◌, ◌-◌, take, drop, sym, refl, ap, arith}
use Rattle.std.proofs.lemmas.Result.{err_from_is_err_and}
use Rattle.sheet.proofs.Nearby.{near_sheet}
use Rattle.sheet.proofs.Verdicts.{refused, taken}
use Rattle.sheet.proofs.reading.check.Goals as goal

pub returns-in_err-h : goal.returns-in_err-h
returns-in_err-h c =
    let p = err_from_is_err_and c.from_residual.result c.from_residual.ensures.1 in
    let e = c.in_err-h.ensures.first in
    rw (p.1, p.2) (record { first = e; taken = refused c.args.bytes.now _ e; near = (near_sheet c.args.bytes.now).place _ (sym e) })

pub returns : goal.returns
returns c =
    let h = c.in_ok-h.h in
    let w = c.in_ok-h.ensures.whole in
    let e = c.in_ok-h.ensures.first in
    let n : 14 + h.marked - 14 ≡ h.marked = omega arith in
    record { first = e; taken = taken c.args.bytes.now h w (λ i. (c.type_inv.bytes i).fits) e _ refl refl refl (ap (λ y. take y (drop 14 c.args.bytes.now)) n); near = tt }
