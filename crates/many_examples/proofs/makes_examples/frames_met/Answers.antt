use Rattle.std.proofs.Common.{◌≡◌, [], Some, refl, arith}
use Rattle.std.specs.List.{slice_get}
use Rattle.std.proofs.lemmas.List.Elements.{All-from_recursion}
use Rattle.commit_gate.specs.Met.{IsMet}
use Rattle.dura_value.specs.Items.{Posted, got}
use Rattle.gated_store.specs.Follows.{ledgers_at}
use Rattle.many_examples.specs.Pairs.{first_entry, request, coming_in}
use Rattle.many_examples.specs.RulesBy.{rules_with, taken_once}
use Rattle.many_examples.proofs.MakesBy.{makes_coming, not_there}
use Rattle.many_rules.specs.Ledgers.{ledgers}
use Rattle.many_examples.proofs.makes_examples.frames_met.Goals as goal

pub returns-clause-met : goal.returns-clause-met
returns-clause-met c = λ flows. record {
  makes = makes_coming flows;
  met = All-from_recursion (IsMet (ledgers_at (ledgers (rules_with flows)) taken_once) 0) (coming_in 0).entry.items (record { begun = omega arith; stands = refl }, tt);
}

pub returns-clause-unsent : goal.returns-clause-unsent
returns-clause-unsent c = λ flows follows.
    let none : slice_get {X = Posted} [] 0 ≡ Some (record { entry = first_entry 1; message = request 1 }) = (follows.met 0 (got (first_entry 1) 0 (request 1)) (omega arith)).stands in cc none

pub returns-clause-makes : goal.returns-clause-makes
returns-clause-makes c = λ flows follows. not_there flows [] follows.makes
