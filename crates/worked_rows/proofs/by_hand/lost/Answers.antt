use Rattle.std.proofs.Common.{refl, arith}
use Rattle.worked_rows.proofs.by_hand.lost.Goals as goal

pub returns-clause-at_the_floor : goal.returns-clause-at_the_floor
returns-clause-at_the_floor c = record {
  floor = record { partition = 0; incarnation = 2; from = 5 };
  there = (0, omega arith, refl);
  partition = refl;
  later = omega arith;
  below = omega arith;
}
