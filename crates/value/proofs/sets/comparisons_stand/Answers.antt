use Rattle.value.proofs.Comparisons.{compares}
use Rattle.value.proofs.sets.comparisons_stand.Goals as goal

pub returns : goal.returns
returns c = compares
