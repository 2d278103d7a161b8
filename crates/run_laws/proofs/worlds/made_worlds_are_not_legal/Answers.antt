use Rattle.std.proofs.Common.{◌∷◌, [], refl, arith}
use Rattle.flow_syntax.specs.Machine.{inside}
use Rattle.dura_model.specs.Legal.{Overlap, Waits, Holds, Blocks}
use Rattle.dura_model.specs.Legal as legal
use Rattle.run_laws.specs.ByHand.{one, other, k, m, in_section, lock_of, overlapping, disordered, circling, left_behind}
use Rattle.run_laws.specs.Causes.{is_inside, is_acquiring, is_granted, is_leaving}
use Rattle.run_laws.proofs.Ordered.{never_overlaps, waits_for_larger, never_circles, has_cause}
use Rattle.run_laws.proofs.worlds.made_worlds_are_not_legal.Goals as goal

overlap : Overlap overlapping
overlap = record {
  one = one;
  other = other;
  apart = refl;
  shared = k;
  first = record { instance = in_section one (inside (k ∷ [])); there = refl; set = k ∷ []; section = refl; held = (0, omega arith, refl) };
  second = record { instance = in_section other (inside (k ∷ [])); there = refl; set = k ∷ []; section = refl; held = (0, omega arith, refl) };
}

one_waits : Waits circling one m
one_waits = record { from = one; task = 0; set = m ∷ []; index = 0; message = lock_of one m; stands = (0, omega arith, refl); is = refl }

other_waits : Waits circling other k
other_waits = record { from = other; task = 0; set = k ∷ []; index = 0; message = lock_of other k; stands = (0, omega arith, refl); is = refl }

other_holds : Holds circling other m
other_holds = record { named = refl; kept = λ released. search (arith, released) }

one_holds : Holds circling one k
one_holds = record { named = refl; kept = λ released. search (arith, released) }

circle : Blocks circling one one
circle = legal.Blocks.more m one_waits other_holds (legal.Blocks.one k other_waits one_holds)

waits_disordered : Waits disordered one k
waits_disordered = record { from = one; task = 0; set = k ∷ []; index = 0; message = lock_of one k; stands = (0, omega arith, refl); is = refl }

holds_disordered : Holds disordered one m
holds_disordered = record { named = refl; kept = λ released. search (arith, released) }

pub returns-clause-overlaps : goal.returns-clause-overlaps
returns-clause-overlaps c = overlap

pub returns-clause-circles : goal.returns-clause-circles
returns-clause-circles c = circle

pub returns-clause-overlapping : goal.returns-clause-overlapping
returns-clause-overlapping c flows run is = never_overlaps flows run overlapping is overlap

pub returns-clause-disordered : goal.returns-clause-disordered
returns-clause-disordered c flows run is = absurd (cc (waits_for_larger flows run disordered is one k m waits_disordered holds_disordered))

pub returns-clause-circling : goal.returns-clause-circling
returns-clause-circling c flows run is = never_circles flows run circling is one circle

pub returns-clause-left_behind : goal.returns-clause-left_behind
returns-clause-left_behind c flows run is = elim (has_cause flows run left_behind is one k refl) [
  | is_inside runs ↦ absurd (cc runs.inside.there)
  | is_acquiring acquires ↦ absurd (cc acquires.there)
  | is_granted grant ↦ absurd (cc grant.there)
  | is_leaving released ↦ search (arith, released)
]
