use Rattle.laws.proofs.Whole.{disabled}
use Rattle.laws.proofs.laws.disabled_stands.Goals as goal

pub returns : goal.returns
returns c = disabled
