use Rattle.std.proofs.Common.{◌≡◌, ◌∙◌, [], ◌∷◌, true, false, Some, codes, refl, sym, arith}
use Rattle.std.specs.List.{All, Contains}
use Rattle.std.proofs.lemmas.List.Elements.{All-from_recursion}
use Rattle.dura_model.specs.Placed.{IsGiven}
use Rattle.dura_model.specs.Partition.{Partition}
use Rattle.dura_value.specs.Dependencies.{named_by}
use Rattle.dura_value.specs.Items.{Entry, ended}
use Rattle.dura_value.specs.declared.data.Value.TheVariants as values
use Rattle.flow_syntax.specs.Machine as machine
use Rattle.many_examples.specs.Pairs.{first_entry, coming_in}
use Rattle.many_examples.specs.Placings.{states_of, asking_states, ending_sum}
use Rattle.many_examples.specs.RulesBy.{starting_sum}
use Rattle.many_examples.proofs.Placings.{none_in}
use Rattle.many_examples.proofs.RulesBy.{comes_in}
use Rattle.run_rules.specs.Examples.{summing}
use Rattle.run_rules.specs.FieldExamples.{no_sum, sum_flows, ending_first}
use Rattle.run_rules.specs.Rules.{EndsPending}
use Rattle.run_rules.proofs.AskedSum.{sum_of_null, may_fail}
use Rattle.many_examples.proofs.rules_examples.frames_going.Goals as goal

pub returns-clause-coming : goal.returns-clause-coming
returns-clause-coming c = comes_in

pub returns-clause-failed : goal.returns-clause-failed
returns-clause-failed c = λ flows. record {
  accepted = (_, refl);
  given = ((may_fail, λ next is. tt), λ next is. tt);
  pending = λ serves. All-from_recursion (λ (entry : Entry). All (EndsPending (asking_states 1)) entry.items) ((ending_sum no_sum).entry ∷ [])
      (All-from_recursion (EndsPending (asking_states 1)) (ending_sum no_sum).entry.items (refl, tt), tt);
  named = All-from_recursion (λ (entry : Entry). All (Contains []) (named_by entry.items)) ((ending_sum no_sum).entry ∷ []) (λ k d inside. absurd (omega (arith, inside)), tt);
}

-- the state in which the activity was asked for
abbrev started : Partition
started = states_of sum_flows (starting_sum ∷ []) 1

asked : started.activities summing 0 ≡ Some sum_of_null
unfolding machine.go_on
asked = refl

may_end : IsGiven started (ended summing 0 no_sum)
may_end activity is = may_fail activity (sym asked ∙ is)

pub returns-clause-settled : goal.returns-clause-settled
unfolding machine.go_on
returns-clause-settled c = record {
  accepted = (_, refl);
  given = ((may_end, λ next is. tt), λ next is. tt);
  pending = λ serves. All-from_recursion (λ (entry : Entry). All (EndsPending started) entry.items) (ending_first ∷ [])
      (All-from_recursion (EndsPending started) ending_first.items (refl, tt), tt);
  named = All-from_recursion (λ (entry : Entry). All (Contains []) (named_by entry.items)) (ending_first ∷ []) (λ k d inside. absurd (omega (arith, inside)), tt);
}

pub returns-clause-given : goal.returns-clause-given
returns-clause-given c = λ flows goes.
    let wrong : false ≡ true = goes.given.0.0 (record { name = codes "add"; argument = values.Null }) refl in
    cc wrong

pub returns-clause-pending : goal.returns-clause-pending
returns-clause-pending c = λ goes. cc (goes.pending refl 1 ending_first (omega arith) 0 (ended summing 0 no_sum) (omega arith))

pub returns-clause-named : goal.returns-clause-named
returns-clause-named c = λ flows goes. none_in (first_entry 1) (goes.named 0 (coming_in 0).entry (omega arith) 0 (first_entry 1) (omega arith))
