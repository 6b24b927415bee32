use Rattle.laws.proofs.Together.{lockstep}
use Rattle.laws.proofs.laws.lockstep_stands.Goals as goal

pub returns : goal.returns
returns c = lockstep
