use Rattle.std.proofs.Common.{◌≡◌, ℕ, [], ◌∷◌, codes, refl, subst, arith}
use Rattle.std.proofs.lemmas.List.Elements.{All-from_recursion}
use Rattle.dura_model.specs.Partition.{Partition, fresh}
use Rattle.many_examples.specs.Pairs.{first_entry, taking, coming_in}
use Rattle.many_examples.specs.Placings.{states_of}
use Rattle.many_examples.specs.RulesBy.{rules_with, first_asked}
use Rattle.many_examples.proofs.RulesBy.{comes_in, takes}
use Rattle.many_rules.specs.Rules.{rules_at, IsFrom, GoesFrom, IsOurs}
use Rattle.run_rules.specs.Rules.{IsAsked, IsBy}
use Rattle.many_examples.proofs.rules_examples.entries_following.Goals as goal

pub returns-clause-coming : goal.returns-clause-coming
returns-clause-coming c = λ flows. record {
  below = omega arith;
  ours = All-from_recursion (IsOurs (rules_with flows) 0 [] 0) ((coming_in 0).entry ∷ []) (
    record {
      incarnation = omega arith;
      some = omega arith;
      few = omega arith;
      asked = λ serves. All-from_recursion (IsAsked (rules_at (rules_with flows) 0) []) (coming_in 0).entry.items (tt, tt);
      since = All-from_recursion (IsFrom 0) (coming_in 0).entry.items (tt, tt);
      timely = All-from_recursion (IsBy 0) (coming_in 0).entry.items (tt, tt);
    },
    tt,
  );
  goes = λ states all.
      let is : states_of flows (taking ∷ []) ≡ states = cc all in
      subst (λ (s : ℕ → Partition). GoesFrom (rules_with flows) (first_entry 1 ∷ []) s 0 ((coming_in 0).entry ∷ [])) is (comes_in flows);
}

pub returns-clause-first : goal.returns-clause-first
returns-clause-first c = λ flows. record {
  below = omega arith;
  ours = All-from_recursion (IsOurs (rules_with flows) 0 [] 1) (taking.entry ∷ []) (
    record {
      incarnation = omega arith;
      some = omega arith;
      few = omega arith;
      asked = λ serves. All-from_recursion (IsAsked (rules_at (rules_with flows) 1) []) taking.entry.items
          (record { name = codes "a"; place = 0; request = first_asked; asked = refl; sends = refl; answered = omega arith }, tt);
      since = All-from_recursion (IsFrom 0) taking.entry.items (tt, tt);
      timely = All-from_recursion (IsBy 0) taking.entry.items (tt, tt);
    },
    tt,
  );
  goes = λ states all.
      let is : fresh ≡ states = cc all in
      subst (λ (s : ℕ → Partition). GoesFrom (rules_with flows) [] s 1 (taking.entry ∷ [])) is (takes flows);
}

pub returns-clause-goes : goal.returns-clause-goes
returns-clause-goes c = λ flows follows. cc (follows.goes fresh refl).accepted.1
