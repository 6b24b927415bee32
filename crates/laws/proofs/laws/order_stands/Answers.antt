use Rattle.laws.proofs.Whole.{order}
use Rattle.laws.proofs.laws.order_stands.Goals as goal

pub returns : goal.returns
returns c = order
