use Rattle.std.proofs.Common.{◌≡◌, ℕ, [], ◌∷◌, Ok, refl}
use Rattle.std.specs.List.{All}
use Rattle.std.proofs.lemmas.List.Elements.{All-from_recursion}
use Rattle.dura_model.specs.Entries.{placed}
use Rattle.dura_model.specs.Partition.{fresh}
use Rattle.dura_value.specs.Items.{Entry}
use Rattle.flow_syntax.specs.Syntax.{Flows}
use Rattle.hub_store.specs.Trail.{of_part}
use Rattle.many_examples.specs.Pairs.{taking, coming_in}
use Rattle.many_examples.specs.Placings.{states_of}
use Rattle.many_examples.specs.RulesBy.{rules_with, taken_once}
use Rattle.many_examples.proofs.RulesBy.{comes_in}
use Rattle.many_logs.specs.Names.{TrimNamed}
use Rattle.many_logs.proofs.Own.{own_chain}
use Rattle.many_rules.specs.Rules.{known_of}
use Rattle.many_examples.proofs.rules_examples.gates_passed.Goals as goal

chains : (flows : Flows) (other : ℕ) → placed flows 2 (fresh other) (of_part other taken_once) ≡ Ok (states_of flows (taking ∷ []) other)
chains flows other = own_chain flows 2 (taking ∷ []) fresh (states_of flows (taking ∷ [])) other refl

pub returns-clause-settled : goal.returns-clause-settled
returns-clause-settled c = λ flows. record {
  settled = states_of flows (taking ∷ []);
  chains = chains flows;
  ahead = states_of flows (taking ∷ []);
  under_way = λ other. [];
  memory = λ other. refl;
  after = _;
  made = refl;
  given = ((tt, λ next is. tt), λ next is. tt);
  pending = (comes_in flows).pending;
  passes = refl;
  trims = All-from_recursion (λ (entry : Entry). All (TrimNamed (known_of (rules_with flows) taken_once)) entry.items) ((coming_in 0).entry ∷ []) (All-from_recursion (TrimNamed (known_of (rules_with flows) taken_once)) (coming_in 0).entry.items (tt, tt), tt);
}

pub returns-clause-goes : goal.returns-clause-goes
returns-clause-goes c = comes_in
