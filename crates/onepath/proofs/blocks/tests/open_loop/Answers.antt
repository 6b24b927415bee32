use Rattle.std.proofs.Common.{refl, arith}
use Rattle.sheet.specs.Code.{stop, literal, repeat}
use Rattle.onepath.proofs.blocks.tests.open_loop.Goals as goal

pub invariant_of-whole : goal.invariant_of-whole
invariant_of-whole g c = record { ordered = omega arith; inside = omega arith; reads = ∣ (repeat 0 2 (literal 0 0 stop) stop, (2, refl, (refl, refl), refl, refl)) ∣₁ }
