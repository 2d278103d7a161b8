use Rattle.std.proofs.Common.{◌≡◌, [], ◌∷◌, refl, arith}
use Rattle.std.proofs.lemmas.List.Elements.{All-from_recursion}
use Rattle.dura_value.specs.Items.{took, fired}
use Rattle.part_items.specs.Examples.{request}
use Rattle.run_rules.specs.Examples.{rules_with, summing}
use Rattle.run_rules.specs.Rules.{IsAsked, IsBy}
use Rattle.run_rules.proofs.field_examples.entries_ours.Goals as goal

pub returns-clause-ours : goal.returns-clause-ours
returns-clause-ours c = λ flows. record {
  incarnation = refl;
  asked = All-from_recursion (IsAsked (rules_with flows) []) (fired summing 3 5 ∷ []) (tt, tt);
  timely = All-from_recursion (IsBy 5) (fired summing 3 5 ∷ []) (omega arith, tt);
}

pub returns-clause-incarnation : goal.returns-clause-incarnation
returns-clause-incarnation c = λ flows ours. let incarnation : 0 ≡ 1 = ours.incarnation in omega (arith, incarnation)

pub returns-clause-asked : goal.returns-clause-asked
returns-clause-asked c = λ flows ours. cc (ours.asked 0 (took request) (omega arith)).asked

pub returns-clause-timely : goal.returns-clause-timely
returns-clause-timely c = λ flows ours. let low : IsBy 4 (fired summing 3 5) = ours.timely 0 (fired summing 3 5) (omega arith) in omega (arith, low)
