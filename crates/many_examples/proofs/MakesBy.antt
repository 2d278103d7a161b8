-- What one of two partitions makes by its own state.
use Rattle.std.proofs.Common.{◌≡◌, [], ◌∷◌, codes, refl, sym, subst, arith}
use Rattle.std.specs.List.{All}
use Rattle.std.proofs.lemmas.List.Elements.{All-from_recursion}
use Rattle.dura_model.specs.Partition.{Partition, fresh}
use Rattle.dura_value.specs.Items.{Entry}
use Rattle.flow_syntax.specs.Syntax.{Flows}
use Rattle.many_examples.specs.Pairs.{taking, coming_in}
use Rattle.many_examples.specs.RulesBy.{rules_with, first_asked}
use Rattle.many_examples.proofs.RulesBy.{comes_in, takes}
use Rattle.many_logs.specs.Labels.{state_next}
use Rattle.many_rules.specs.Makes.{Makes}
use Rattle.many_rules.specs.Rules.{rules_at, IsFrom, IsOurs}
use Rattle.part_items.specs.Numbered.{IsNumbered}
use Rattle.run_rules.specs.Rules.{IsAsked, IsBy, EndsPending}

pub makes_coming : (flows : Flows) → Makes (rules_with flows) 0 [] [] 0 ((coming_in 0).entry ∷ [])
makes_coming flows = record {
  below = omega arith;
  before = fresh 0;
  made = refl;
  number = refl;
  position = refl;
  numbered = (refl, omega arith, tt);
  after = _;
  accepted = refl;
  given = ((tt, λ next is. tt), λ next is. tt);
  pending = (comes_in flows).pending;
  ours = All-from_recursion (IsOurs (rules_with flows) 0 [] 0) ((coming_in 0).entry ∷ []) (
    record {
      incarnation = omega arith;
      some = omega arith;
      few = omega arith;
      asked = λ serves. All-from_recursion (IsAsked (rules_at (rules_with flows) 0) []) (coming_in 0).entry.items (tt, tt);
      since = All-from_recursion (IsFrom 0) (coming_in 0).entry.items (tt, tt);
      timely = All-from_recursion (IsBy 0) (coming_in 0).entry.items (tt, tt);
    },
    tt,
  );
}

-- the same in a later incarnation
abbrev later_entry : Entry
later_entry = record (coming_in 0).entry { incarnation = 1 }

pub makes_later : (flows : Flows) → Makes (rules_with flows) 0 [] [] 0 (later_entry ∷ [])
makes_later flows = record {
  below = omega arith;
  before = fresh 0;
  made = refl;
  number = refl;
  position = refl;
  numbered = (refl, omega arith, tt);
  after = _;
  accepted = refl;
  given = ((tt, λ next is. tt), λ next is. tt);
  pending = λ serves. All-from_recursion (λ (entry : Entry). All (EndsPending (fresh 0)) entry.items) (later_entry ∷ []) (All-from_recursion (EndsPending (fresh 0)) later_entry.items (tt, tt), tt);
  ours = All-from_recursion (IsOurs (rules_with flows) 0 [] 0) (later_entry ∷ []) (
    record {
      incarnation = omega arith;
      some = omega arith;
      few = omega arith;
      asked = λ serves. All-from_recursion (IsAsked (rules_at (rules_with flows) 0) []) later_entry.items (tt, tt);
      since = All-from_recursion (IsFrom 0) later_entry.items (tt, tt);
      timely = All-from_recursion (IsBy 0) later_entry.items (tt, tt);
    },
    tt,
  );
}

pub makes_taking : (flows : Flows) → Makes (rules_with flows) 0 [] [] 1 (taking.entry ∷ [])
makes_taking flows = record {
  below = omega arith;
  before = fresh 1;
  made = refl;
  number = refl;
  position = refl;
  numbered = (refl, omega arith, tt);
  after = _;
  accepted = refl;
  given = ((tt, λ next is. tt), λ next is. tt);
  pending = (takes flows).pending;
  ours = All-from_recursion (IsOurs (rules_with flows) 0 [] 1) (taking.entry ∷ []) (
    record {
      incarnation = omega arith;
      some = omega arith;
      few = omega arith;
      asked = λ serves. All-from_recursion (IsAsked (rules_at (rules_with flows) 1) []) taking.entry.items
          (record { name = codes "a"; place = 0; request = first_asked; asked = refl; sends = refl; answered = omega arith }, tt);
      since = All-from_recursion (IsFrom 0) taking.entry.items (tt, tt);
      timely = All-from_recursion (IsBy 0) taking.entry.items (tt, tt);
    },
    tt,
  );
}

-- no entry of position 1 stands behind nothing
pub not_there : (flows : Flows) (told : _) → Makes (rules_with flows) 0 [] told 0 ((coming_in 1).entry ∷ []) → ⊥
not_there flows told makes =
    let same : fresh 0 ≡ makes.before = cc makes.made in
    let here : IsNumbered (state_next (fresh 0)) ((coming_in 1).entry ∷ []) = subst (λ (p : Partition). IsNumbered (state_next p) ((coming_in 1).entry ∷ [])) (sym same) makes.numbered in
    let one : 1 ≡ 0 = here.0 in omega (arith, one)
