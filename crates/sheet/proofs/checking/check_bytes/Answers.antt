use Rattle.sheet.proofs.Stepping.{misfit_fault}
use Rattle.sheet.proofs.checking.check_bytes.Goals as goal

pub returns-in-Some : goal.returns-in-Some
returns-in-Some c bs here =
    misfit_fault c.args.cells c.args.at bs c.args.kind c.args.line.now here c.rules.result _ c.rules.ensures c.told-line c.in-Some.ensures

pub returns-in-None : goal.returns-in-None
returns-in-None c bs here =
    misfit_fault c.args.cells c.args.at bs c.args.kind c.args.line.now here c.rules.result _ c.rules.ensures c.told-line c.in-None.ensures
