use Rattle.std.proofs.Common.{◌≡◌, ℕ, [], ◌∷◌, Result, Ok, Err, Some, refl, sym, ◌∙◌, subst, arith}
use Rattle.std.specs.List.{All}
use Rattle.std.proofs.lemmas.List.Elements.{All-from_recursion}
use Rattle.dura_model.specs.Partition.{Partition, fresh}
use Rattle.dura_model.specs.Placed.{IsGiven}
use Rattle.dura_value.specs.Items.{Entry, ended}
use Rattle.flow_syntax.specs.Machine as machine
use Rattle.dura_model.specs.Entries.{placed}
use Rattle.run_rules.specs.Examples.{summing, rules_with}
use Rattle.run_rules.specs.FieldExamples.{sum_flows, starting, ending_first, no_sum}
use Rattle.run_rules.specs.Rules.{IsAsked, IsBy, IsOurs, EndsPending, EndPending}
use Rattle.run_rules.proofs.AskedSum.{sum_of_null, may_fail}
use Rattle.run_rules.proofs.field_examples.outcomes_settled.Goals as goal

-- the state that entries make, where they make one
abbrev made_by : Result Partition ℕ → Partition
made_by (Ok p) = p
made_by (Err position) = fresh 0

abbrev started : Partition
started = made_by (placed sum_flows 1 (fresh 0) (starting ∷ []))

asked : started.activities summing 0 ≡ Some sum_of_null
unfolding machine.go_on
asked = refl

may_end : IsGiven started (ended summing 0 no_sum)
may_end activity is = may_fail activity (sym asked ∙ is)

pub returns-clause-behind : goal.returns-clause-behind
unfolding machine.go_on
returns-clause-behind c = record {
  before = started;
  made = refl;
  after = _;
  accepted = refl;
  given = ((may_end, λ next is. tt), λ next is. tt);
  ours = All-from_recursion (IsOurs (rules_with sum_flows) 5 []) (ending_first ∷ []) (
    record {
      incarnation = refl;
      asked = All-from_recursion (IsAsked (rules_with sum_flows) []) (ended summing 0 no_sum ∷ []) (tt, tt);
      timely = All-from_recursion (IsBy 5) (ended summing 0 no_sum ∷ []) (tt, tt);
    },
    tt,
  );
  pending = All-from_recursion (λ (entry : Entry). All (EndsPending started) entry.items) (ending_first ∷ [])
      (All-from_recursion (EndsPending started) (ended summing 0 no_sum ∷ []) (refl, tt), tt);
}

pub returns-clause-early : goal.returns-clause-early
returns-clause-early c = λ follows.
    let made : Ok (fresh 0) ≡ Ok follows.before = follows.made in
    let before_is : follows.before ≡ fresh 0 = cc made in
    let pending : EndPending (fresh 0) (starting ∷ ending_first ∷ []) = subst (λ (p : Partition). EndPending p (starting ∷ ending_first ∷ [])) before_is follows.pending in
    cc (pending 1 ending_first (omega arith) 0 (ended summing 0 no_sum) (omega arith))
