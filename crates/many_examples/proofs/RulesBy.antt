-- What goes on from states of two partitions, and whose requests are due.
use Rattle.std.proofs.Common.{[], ◌∷◌, refl, arith}
use Rattle.std.specs.List.{All, Contains}
use Rattle.std.proofs.lemmas.List.Elements.{All-from_recursion}
use Rattle.dura_model.specs.Partition.{fresh}
use Rattle.dura_value.specs.Dependencies.{named_by}
use Rattle.dura_value.specs.Items.{Entry}
use Rattle.flow_syntax.specs.Syntax.{Flows}
use Rattle.many_examples.specs.Pairs.{first_entry, taking, coming_in}
use Rattle.many_examples.specs.Placings.{states_of}
use Rattle.many_examples.specs.RulesBy.{rules_with}
use Rattle.many_rules.specs.Rules.{GoesFrom}
use Rattle.run_rules.specs.Rules.{EndsPending}

-- the message comes in where it was sent
pub comes_in : (flows : Flows) → GoesFrom (rules_with flows) (first_entry 1 ∷ []) (states_of flows (taking ∷ [])) 0 ((coming_in 0).entry ∷ [])
comes_in flows = record {
  accepted = (_, refl);
  given = ((tt, λ next is. tt), λ next is. tt);
  pending = λ serves. All-from_recursion (λ (entry : Entry). All (EndsPending (fresh 0)) entry.items) ((coming_in 0).entry ∷ [])
      (All-from_recursion (EndsPending (fresh 0)) (coming_in 0).entry.items (tt, tt), tt);
  named = All-from_recursion (λ (entry : Entry). All (Contains (first_entry 1 ∷ [])) (named_by entry.items)) ((coming_in 0).entry ∷ [])
      (All-from_recursion (Contains (first_entry 1 ∷ [])) (first_entry 1 ∷ []) ((0, omega arith, refl), tt), tt);
}

-- a request is taken where nothing happened
pub takes : (flows : Flows) → GoesFrom (rules_with flows) [] fresh 1 (taking.entry ∷ [])
takes flows = record {
  accepted = (_, refl);
  given = ((tt, λ next is. tt), λ next is. tt);
  pending = λ serves. All-from_recursion (λ (entry : Entry). All (EndsPending (fresh 1)) entry.items) (taking.entry ∷ [])
      (All-from_recursion (EndsPending (fresh 1)) taking.entry.items (tt, tt), tt);
  named = All-from_recursion (λ (entry : Entry). All (Contains []) (named_by entry.items)) (taking.entry ∷ []) (λ k d inside. absurd (omega (arith, inside)), tt);
}
