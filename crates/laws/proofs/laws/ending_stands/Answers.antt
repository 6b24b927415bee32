use Rattle.laws.proofs.Whole.{ending}
use Rattle.laws.proofs.laws.ending_stands.Goals as goal

pub returns : goal.returns
returns c = ending
