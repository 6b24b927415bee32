use Rattle.std.proofs.Common.{refl, lit<, lit≤}
use Rattle.sheet.specs.Code.{stop, work, literal, choose}
use Rattle.marking.proofs.spread.tests.reaches_by_condition.Goals as goal

pub invariant_of-whole : goal.invariant_of-whole
invariant_of-whole g c = record { ordered = lit≤ tt; inside = lit≤ tt; reads = ∣ (work 2 0 1 3 (choose 0 (literal 1 5 stop) stop stop), (refl, (3, 4, refl, (refl, refl), refl, refl, refl, refl))) ∣₁ }

pub mark_lines-passes-requires : goal.mark_lines-passes-requires
mark_lines-passes-requires g c =
    record {
      reads = (
        work 2 0 1 3 (choose 0 (literal 1 5 stop) stop stop),
        6,
        (refl, (3, 4, refl, (refl, refl), refl, refl, refl, refl)),
        (lit< tt, lit≤ tt, lit< tt, lit< tt, (lit< tt, lit≤ tt, (lit< tt, lit< tt, tt), tt, tt)),
      );
      room = lit≤ tt;
      few = lit≤ tt;
      rising = (lit≤ tt, lit< tt, tt);
    }
