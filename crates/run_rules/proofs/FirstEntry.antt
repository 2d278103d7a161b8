-- The entry by which the first request is taken may follow where nothing is settled.
use Rattle.std.proofs.Common.{[], ◌∷◌, codes, refl, arith}
use Rattle.std.proofs.lemmas.List.Elements.{All-from_recursion}
use Rattle.std.specs.List.{All}
use Rattle.dura_model.specs.Partition.{fresh}
use Rattle.dura_value.specs.Items.{Entry, took}
use Rattle.part_items.specs.Examples.{request, taking}
use Rattle.run_rules.specs.Examples.{request_taken, first_asked, rules_with}
use Rattle.flow_syntax.specs.Syntax.{Flows}
use Rattle.run_rules.specs.Rules.{IsAsked, IsBy, IsOurs, EndsPending, Follows}

pub first_follows : (flows : Flows) → Follows (rules_with flows) 0 [] [] (taking 0 ∷ [])
first_follows flows = record {
  before = fresh 0;
  made = refl;
  after = request_taken;
  accepted = refl;
  given = ((tt, λ next is. tt), λ next is. tt);
  ours = All-from_recursion (IsOurs (rules_with flows) 0 []) (taking 0 ∷ []) (
    record {
      incarnation = refl;
      asked = All-from_recursion (IsAsked (rules_with flows) []) (took request ∷ [])
          (record { name = codes "a"; place = 0; request = first_asked; asked = refl; sends = refl; answered = omega arith }, tt);
      timely = All-from_recursion (IsBy 0) (took request ∷ []) (tt, tt);
    },
    tt,
  );
  pending = All-from_recursion (λ (entry : Entry). All (EndsPending (fresh 0)) entry.items) (taking 0 ∷ [])
      (All-from_recursion (EndsPending (fresh 0)) (took request ∷ []) (tt, tt), tt);
}
