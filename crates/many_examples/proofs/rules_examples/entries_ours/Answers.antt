use Rattle.std.proofs.Common.{◌≡◌, ◌≤◌, ℕ, [], ◌∷◌, Option, Some, None, codes, refl, subst, arith}
use Rattle.std.specs.List.{All, Contains}
use Rattle.std.proofs.lemmas.List.Elements.{All-from_recursion}
use Rattle.dura_model.specs.Entries.{AreGiven}
use Rattle.dura_model.specs.Partition.{Partition, fresh, enter, accepted}
use Rattle.dura_value.specs.Dependencies.{named_by}
use Rattle.dura_value.specs.Ids.{client}
use Rattle.dura_value.specs.Items.{Item, Entry, took, ran}
use Rattle.many_examples.specs.Pairs.{asks, request, taking, coming_in}
use Rattle.many_examples.specs.RulesBy.{later_rules, free_rules, first_asked, no_flows, unknown_rules, answering_at}
use Rattle.many_rules.specs.Rules.{rules_at, IsFrom, GoesFrom, IsOurs}
use Rattle.run_rules.specs.Examples.{summing}
use Rattle.run_rules.specs.Rules.{IsAsked, IsBy, EndsPending}
use Rattle.many_examples.proofs.RulesBy.{takes}
use Rattle.many_examples.proofs.rules_examples.entries_ours.Goals as goal

pub returns-clause-incarnation : goal.returns-clause-incarnation
returns-clause-incarnation c = λ flows follows. let incarnation : 1 ≤ 0 = (follows.ours 0 (coming_in 0).entry (omega arith)).incarnation in omega (arith, incarnation)

pub returns-clause-other : goal.returns-clause-other
returns-clause-other c = λ flows. record {
  below = omega arith;
  ours = All-from_recursion (IsOurs (later_rules flows) 0 [] 1) (taking.entry ∷ []) (
    record {
      incarnation = omega arith;
      some = omega arith;
      few = omega arith;
      asked = λ serves. All-from_recursion (IsAsked (rules_at (later_rules flows) 1) []) taking.entry.items
          (record { name = codes "a"; place = 0; request = first_asked; asked = refl; sends = refl; answered = omega arith }, tt);
      since = All-from_recursion (IsFrom 0) taking.entry.items (tt, tt);
      timely = All-from_recursion (IsBy 0) taking.entry.items (tt, tt);
    },
    tt,
  );
  goes = λ states all.
      let is : fresh ≡ states = cc all in
      let goes = takes flows in
      subst (λ (s : ℕ → Partition). GoesFrom (later_rules flows) [] s 1 (taking.entry ∷ [])) is (record { accepted = goes.accepted; given = goes.given; pending = goes.pending; named = goes.named });
}

pub returns-clause-unserved : goal.returns-clause-unserved
returns-clause-unserved c = λ flows. record {
  below = omega arith;
  ours = All-from_recursion (IsOurs (free_rules flows) 0 [] 1) (taking.entry ∷ []) (
    record {
      incarnation = omega arith;
      some = omega arith;
      few = omega arith;
      asked = λ serves. cc serves;
      since = All-from_recursion (IsFrom 0) taking.entry.items (tt, tt);
      timely = All-from_recursion (IsBy 0) taking.entry.items (tt, tt);
    },
    tt,
  );
  goes = λ states all.
      let is : fresh ≡ states = cc all in
      let goes = takes flows in
      subst (λ (s : ℕ → Partition). GoesFrom (free_rules flows) [] s 1 (taking.entry ∷ [])) is (record { accepted = goes.accepted; given = goes.given; pending = λ serves. cc serves; named = goes.named });
}

pub returns-clause-asked : goal.returns-clause-asked
returns-clause-asked c = λ flows follows. cc ((follows.ours 0 taking.entry (omega arith)).asked refl 0 (took (request 1)) (omega arith)).asked

-- the state that an item makes, where it makes one
abbrev made_by : Option Partition → Partition
made_by None = fresh 1
made_by (Some p) = p

abbrev first_ran : Item
first_ran = ran (client (codes "a")) summing 5

abbrev then_ran : Item
then_ran = ran summing (client (codes "a")) 5

-- once the request is taken, and once it is delivered
abbrev has_taken : Partition
has_taken = made_by (accepted no_flows 2 (enter 0 (fresh 1)) (took (asks (codes "a") (codes "x") 1)))

abbrev has_delivered : Partition
has_delivered = made_by (accepted no_flows 2 has_taken first_ran)

goes_then : GoesFrom unknown_rules [] fresh 1 ((answering_at 5).entry ∷ [])
goes_then = record {
  accepted = (_, refl);
  given = (
    (
      tt,
      λ next is.
          let taken : has_taken ≡ next = cc is in
          subst (λ (p : Partition). AreGiven no_flows 2 p (first_ran ∷ then_ran ∷ [])) taken (
            λ none. cc none,
            λ after made.
                let delivered : has_delivered ≡ after = cc made in
                subst (λ (p : Partition). AreGiven no_flows 2 p (then_ran ∷ [])) delivered (λ none. cc none, λ last all. tt),
          ),
    ),
    λ next is. tt,
  );
  pending = λ serves. All-from_recursion (λ (entry : Entry). All (EndsPending (fresh 1)) entry.items) ((answering_at 5).entry ∷ [])
      (All-from_recursion (EndsPending (fresh 1)) (answering_at 5).entry.items (tt, (tt, (tt, tt))), tt);
  named = All-from_recursion (λ (entry : Entry). All (Contains []) (named_by entry.items)) ((answering_at 5).entry ∷ []) (λ k d inside. absurd (omega (arith, inside)), tt);
}

pub returns-clause-by_then : goal.returns-clause-by_then
returns-clause-by_then c = record {
  below = omega arith;
  ours = All-from_recursion (IsOurs unknown_rules 5 [] 1) ((answering_at 5).entry ∷ []) (
    record {
      incarnation = omega arith;
      some = omega arith;
      few = omega arith;
      asked = λ serves. All-from_recursion (IsAsked (rules_at unknown_rules 1) []) (answering_at 5).entry.items
          (record { name = codes "a"; place = 0; request = record { client = codes "a"; number = 1; message = asks (codes "a") (codes "x") 1 }; asked = refl; sends = refl; answered = omega arith }, (tt, (tt, tt)));
      since = All-from_recursion (IsFrom 0) (answering_at 5).entry.items (tt, (omega arith, (omega arith, tt)));
      timely = All-from_recursion (IsBy 5) (answering_at 5).entry.items (tt, (omega arith, (omega arith, tt)));
    },
    tt,
  );
  goes = λ states all.
      let is : fresh ≡ states = cc all in
      subst (λ (s : ℕ → Partition). GoesFrom unknown_rules [] s 1 ((answering_at 5).entry ∷ [])) is goes_then;
}

pub returns-clause-timely : goal.returns-clause-timely
returns-clause-timely c = λ follows.
    let low : IsBy 4 (ran (client (codes "a")) summing 5) = (follows.ours 0 (answering_at 5).entry (omega arith)).timely 1 (ran (client (codes "a")) summing 5) (omega arith) in
    omega (arith, low)
