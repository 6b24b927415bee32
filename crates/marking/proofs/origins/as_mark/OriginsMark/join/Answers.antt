use Rattle.std.proofs.lemmas.Nat.{or_lt}
use Rattle.marking.proofs.origins.as_mark.OriginsMark.join.Goals as goal

pub invariant_of-result : goal.invariant_of-result
invariant_of-result c = record { fits = or_lt 64 c.args.self.members c.args.other.members c.args.self.fits c.args.other.fits }
