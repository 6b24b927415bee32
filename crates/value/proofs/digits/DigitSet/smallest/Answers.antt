use Rattle.std.proofs.Common.{ℕ, ◌<◌, sym, ◌∙◌, subst}
use Rattle.value.proofs.Table.{at_table, smallest_below}
use Rattle.value.proofs.digits.DigitSet.smallest.Goals as goal

pub invariant_of-result : goal.invariant_of-result
invariant_of-result c =
    let s = c.args.self.bits in
    record { nine = subst (λ (x : ℕ). x < 512) (sym (c.entry_of.ensures ∙ at_table s c.args.self.nine)) (smallest_below s) }

pub returns : goal.returns
returns c = c.entry_of.ensures ∙ at_table c.args.self.bits c.args.self.nine
