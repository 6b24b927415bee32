use Rattle.value.proofs.Bitwise.{stands}
use Rattle.value.proofs.sets.sets_stand.Goals as goal

pub returns : goal.returns
returns c = stands
