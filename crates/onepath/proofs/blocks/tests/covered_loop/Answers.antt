use Rattle.std.proofs.Common.{refl, arith}
use Rattle.sheet.specs.Code.{stop, work, literal, repeat}
use Rattle.onepath.proofs.blocks.tests.covered_loop.Goals as goal

pub invariant_of-whole : goal.invariant_of-whole
invariant_of-whole g c =
    record {
      ordered = omega arith;
      inside = omega arith;
      reads = ∣ (literal 0 1 (repeat 1 3 (work 1 1 1 0 (work 2 0 2 0 stop)) stop), (refl, (4, refl, (refl, (refl, refl)), refl, refl))) ∣₁;
    }
