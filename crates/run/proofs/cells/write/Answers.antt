use Rattle.std.proofs.lemmas.List.{map-set}
use Rattle.run.proofs.cells.write.Goals as goal

pub returns : goal.returns
returns g c = rw c.put.ensures (map-set g.V.Value.meaning c.args.cells.now c.args.x c.args.value)
