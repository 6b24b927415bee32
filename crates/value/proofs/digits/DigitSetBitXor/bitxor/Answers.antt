use Rattle.std.proofs.lemmas.Nat.{xor_lt}
use Rattle.value.proofs.digits.DigitSetBitXor.bitxor.Goals as goal

pub invariant_of-result : goal.invariant_of-result
invariant_of-result c = record { nine = xor_lt 9 c.args.self.bits c.args.other.bits c.args.self.nine c.args.other.nine }
