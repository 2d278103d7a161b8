use Rattle.std.proofs.Common.{◌∷◌, [], refl, arith}
use Rattle.flow_syntax.specs.Machine.{inside}
use Rattle.worked_rows.specs.ByHand.{one, other, k, m, in_section}
use Rattle.worked_rows.proofs.by_hand.overlaps.Goals as goal

pub returns-clause-shared : goal.returns-clause-shared
returns-clause-shared c = record {
  one = one;
  other = other;
  apart = refl;
  shared = k;
  first = record { instance = in_section one (inside (k ∷ m ∷ [])); there = refl; set = k ∷ m ∷ []; section = refl; held = (0, omega arith, refl) };
  second = record { instance = in_section other (inside (k ∷ [])); there = refl; set = k ∷ []; section = refl; held = (0, omega arith, refl) };
}
