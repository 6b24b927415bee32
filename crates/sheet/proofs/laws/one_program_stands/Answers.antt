use Rattle.sheet.proofs.Sole.{sole}
use Rattle.sheet.proofs.laws.one_program_stands.Goals as goal

pub returns : goal.returns
returns c = sole
