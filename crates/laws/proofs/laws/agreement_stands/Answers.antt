use Rattle.laws.proofs.Whole.{agreement}
use Rattle.laws.proofs.laws.agreement_stands.Goals as goal

pub returns : goal.returns
returns c = agreement
