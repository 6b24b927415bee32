use Rattle.std.proofs.lemmas.Nat.{or_lt}
use Rattle.value.proofs.digits.DigitSetBitOr.bitor.Goals as goal

pub invariant_of-result : goal.invariant_of-result
invariant_of-result c = record { nine = or_lt 9 c.args.self.bits c.args.other.bits c.args.self.nine c.args.other.nine }
