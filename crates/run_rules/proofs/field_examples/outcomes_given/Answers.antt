use Rattle.std.proofs.Common.{◌≡◌, [], ◌∷◌, Ok, true, false, codes, refl, subst}
use Rattle.std.specs.List.{All}
use Rattle.std.proofs.lemmas.List.Elements.{All-from_recursion}
use Rattle.dura_model.specs.Partition.{Partition}
use Rattle.dura_value.specs.Items.{Entry, ended}
use Rattle.dura_value.specs.declared.data.Value.TheVariants as values
use Rattle.dura_value.specs.declared.outcome.Outcome.TheVariants as outcomes
use Rattle.dura_model.specs.Entries.{AllGiven}
use Rattle.run_rules.specs.Examples.{summing, ending}
use Rattle.run_rules.specs.FieldExamples.{asking, asking_rules, no_sum}
use Rattle.run_rules.specs.Rules.{IsAsked, IsBy, IsOurs, EndsPending}
use Rattle.run_rules.proofs.AskedSum.{may_fail}
use Rattle.run_rules.proofs.field_examples.outcomes_given.Goals as goal

pub returns-clause-failed : goal.returns-clause-failed
returns-clause-failed c = λ flows. record {
  before = asking;
  made = refl;
  after = _;
  accepted = refl;
  given = ((may_fail, λ next is. tt), λ next is. tt);
  ours = All-from_recursion (IsOurs (asking_rules flows) 0 []) (ending 0 no_sum ∷ []) (
    record {
      incarnation = refl;
      asked = All-from_recursion (IsAsked (asking_rules flows) []) (ended summing 3 no_sum ∷ []) (tt, tt);
      timely = All-from_recursion (IsBy 0) (ended summing 3 no_sum ∷ []) (tt, tt);
    },
    tt,
  );
  pending = All-from_recursion (λ (entry : Entry). All (EndsPending asking) entry.items) (ending 0 no_sum ∷ [])
      (All-from_recursion (EndsPending asking) (ended summing 3 no_sum ∷ []) (refl, tt), tt);
}

pub returns-clause-done : goal.returns-clause-done
returns-clause-done c = λ flows follows.
    let made : Ok asking ≡ Ok follows.before = follows.made in
    let before_is : follows.before ≡ asking = cc made in
    let given : AllGiven flows 1 asking (ending 0 (outcomes.Done values.Null) ∷ []) = subst (λ (p : Partition). AllGiven flows 1 p (ending 0 (outcomes.Done values.Null) ∷ [])) before_is follows.given in
    let wrong : false ≡ true = given.0.0 (record { name = codes "add"; argument = values.Null }) refl in
    cc wrong
