use Rattle.std.proofs.Common.{◌≡◌, ℕ, List, [], ◌∷◌, refl, ap, subst, arith}
use Rattle.std.specs.List.{All}
use Rattle.std.proofs.lemmas.List.Elements.{All-from_recursion}
use Rattle.dura_model.specs.Partition.{Partition, fresh}
use Rattle.dura_value.specs.Items.{Entry, ended}
use Rattle.dura_value.specs.declared.outcome.Outcome.{Outcome}
use Rattle.flow_syntax.specs.Machine as machine
use Rattle.flow_syntax.specs.Syntax.{Flows}
use Rattle.many_examples.specs.Pairs.{taking, coming_in}
use Rattle.many_examples.specs.Placings.{states_of, asking_states, ending_sum}
use Rattle.many_examples.specs.RulesBy.{rules_with, at_once}
use Rattle.many_examples.proofs.RulesBy.{comes_in, takes}
use Rattle.many_examples.proofs.AtOnce.{single, ended_at_once}
use Rattle.many_logs.specs.Placing.{Commit, commits_at}
use Rattle.many_rules.specs.Leaves.{AllRan}
use Rattle.many_rules.specs.Leaves.AllRan.{nothing_ran, frame_more}
use Rattle.run_rules.specs.Examples.{summing}
use Rattle.run_rules.specs.FieldExamples.{no_sum, sum_flows}
use Rattle.run_rules.specs.Rules.{EndsPending, EndPending}
use Rattle.many_examples.proofs.rules_examples.activities_ran.Goals as goal

pub returns-clause-coming : goal.returns-clause-coming
returns-clause-coming c = λ flows. frame_more (frame_more nothing_ran fresh refl 1 (taking.entry ∷ []) (takes flows).pending) (states_of flows (taking ∷ [])) refl 0 ((coming_in 0).entry ∷ []) (comes_in flows).pending

pub returns-clause-pending : goal.returns-clause-pending
returns-clause-pending c = λ flows. frame_more nothing_ran asking_states refl 1 ((ending_sum no_sum).entry ∷ [])
    (λ serves. All-from_recursion (λ (entry : Entry). All (EndsPending (asking_states 1)) entry.items) ((ending_sum no_sum).entry ∷ [])
    (All-from_recursion (EndsPending (asking_states 1)) (ending_sum no_sum).entry.items (refl, tt), tt))

-- an outcome at the front of a frame
in_front : (partition : ℕ) (outcome : Outcome) (going : List Entry) → EndPending (fresh partition) going → commits_at partition going ≡ ending_sum outcome ∷ [] → ⊥
in_front partition outcome [] pending is = cc is
in_front partition outcome (entry ∷ going) pending is =
    let first : entry ≡ (ending_sum outcome).entry = ap (λ (one : Commit). one.entry) (head is) in
    let there : EndPending (fresh partition) ((ending_sum outcome).entry ∷ going) = subst (λ (e : Entry). EndPending (fresh partition) (e ∷ going)) first pending in
    cc (there 0 (ending_sum outcome).entry (omega arith) 0 (ended summing 3 outcome) (omega arith))
  where
    head : record { partition = partition; entry = entry } ∷ commits_at partition going ≡ ending_sum outcome ∷ [] → record { partition = partition; entry = entry } ≡ ending_sum outcome
    head is = cc is

ran_early : (flows : Flows) (outcome : Outcome) {commits : List Commit} → AllRan (rules_with flows) commits → commits ≡ ending_sum outcome ∷ [] → ⊥
ran_early flows outcome nothing_ran is = cc is
ran_early flows outcome (frame_more {settled = []} before states made partition going pending) is =
    let begins : states ≡ fresh = cc made in
    in_front partition outcome going (subst (λ (s : ℕ → Partition). EndPending (s partition) going) begins (pending refl)) is
ran_early flows outcome (frame_more {settled = first ∷ more} before states made partition going pending) is = ran_early flows outcome before (single more (commits_at partition going) first (ending_sum outcome) is)

pub returns-clause-unserved : goal.returns-clause-unserved
returns-clause-unserved c = λ flows outcome. frame_more nothing_ran fresh refl 1 ((ending_sum outcome).entry ∷ []) (λ serves. cc serves)

pub returns-clause-early : goal.returns-clause-early
returns-clause-early c = λ flows outcome ran. ran_early flows outcome ran refl

pub returns-clause-accepted : goal.returns-clause-accepted
unfolding machine.go_on
returns-clause-accepted c = (states_of sum_flows (at_once ∷ []), refl)

pub returns-clause-at_once : goal.returns-clause-at_once
returns-clause-at_once c = ended_at_once
