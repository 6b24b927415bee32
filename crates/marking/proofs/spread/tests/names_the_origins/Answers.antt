use Rattle.std.proofs.Common.{refl, lit<, lit≤}
use Rattle.sheet.specs.Code.{stop, work, repeat}
use Rattle.marking.proofs.spread.tests.names_the_origins.Goals as goal

pub invariant_of-whole : goal.invariant_of-whole
invariant_of-whole g c = record { ordered = lit≤ tt; inside = lit≤ tt; reads = ∣ (repeat 0 9 (work 1 0 2 2 stop) stop, (2, refl, (refl, refl), refl, refl)) ∣₁ }

pub mark_lines-passes-requires : goal.mark_lines-passes-requires
mark_lines-passes-requires g c =
    record {
      reads = (
        repeat 0 9 (work 1 0 2 2 stop) stop,
        6,
        (2, refl, (refl, refl), refl, refl),
        (lit< tt, lit≤ tt, lit≤ tt, lit≤ tt, (lit< tt, lit≤ tt, lit< tt, lit< tt, tt), tt),
      );
      room = lit≤ tt;
      few = lit≤ tt;
      rising = (lit≤ tt, lit< tt, (lit≤ tt, lit< tt, tt));
    }
