use Rattle.std.proofs.Common.{List, Ok, Err, Result, sym, ap, ◌∙◌}
use Rattle.std.proofs.lemmas.Result.{err_from_is_err_and}
use Rattle.sheet.specs.Nests.{opens}
use Rattle.sheet.specs.declared.faults.ReadFault.{ReadFault}
use Rattle.sheet.specs.declared.nesting.Open.{Open}
use Rattle.sheet.proofs.Stepping.{says_fault, says_after, placed_open}
use Rattle.sheet.proofs.checking.check_line.Goals as goal

pub returns-in_err-check_bytes : goal.returns-in_err-check_bytes
returns-in_err-check_bytes c bs here =
    let p = err_from_is_err_and c.from_residual.result c.from_residual.ensures.1 in
    rw (p.1, p.2) (says_fault c.args.cells c.args.at bs c.in-Ok.kind c.args.line.now here (opens c.args.nest) c.in-Ok.ensures _ (c.in_err-check_bytes.ensures bs here))

pub returns : goal.returns
returns c bs here =
    says_after c.args.cells c.args.at bs c.in-Ok.kind c.args.line.now here (opens c.args.nest) c.in-Ok.ensures _ (c.in_ok-check_bytes.ensures bs here) c.past.ensures
    ∙ placed_open c.args.at c.past.result
    ∙ ap (λ r. elim r as (λ _. Result (List Open) ReadFault) [ Ok n ↦ Ok (opens n) | Err f ↦ Err f ]) (sym c.ok_or.ensures.value)
