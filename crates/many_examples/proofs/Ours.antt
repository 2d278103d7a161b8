-- An entry that takes the first request that is asked for is the call's.
use Rattle.std.proofs.Common.{◌≤◌, [], ◌∷◌, codes, refl, arith}
use Rattle.std.proofs.lemmas.List.Elements.{All-from_recursion}
use Rattle.flow_syntax.specs.Syntax.{Flows}
use Rattle.many_examples.specs.RulesBy.{taking_rules, asked_for_x}
use Rattle.many_rules.specs.Rules.{IsFrom, IsOurs, rules_at}
use Rattle.part_items.specs.Examples.{taking}
use Rattle.run_rules.specs.Rules.{IsAsked, IsBy}

pub taking_ours : (flows : Flows) → IsOurs (taking_rules flows) 0 [] 1 (taking 0)
taking_ours flows = record {
  incarnation = omega arith;
  some = omega arith;
  few = omega arith;
  asked = λ serves. All-from_recursion (IsAsked (rules_at (taking_rules flows) 1) []) (taking 0).items
      (record { name = codes "a"; place = 0; request = asked_for_x; asked = refl; sends = refl; answered = omega arith }, tt);
  since = All-from_recursion (IsFrom 0) (taking 0).items (tt, tt);
  timely = All-from_recursion (IsBy 0) (taking 0).items (tt, tt);
}
