use Rattle.std.proofs.Common.{◌≡◌, true, false, [], ◌∷◌, codes, refl, arith}
use Rattle.std.proofs.lemmas.List.Elements.{All-from_recursion}
use Rattle.dura_model.specs.Partition.{fresh}
use Rattle.client_order.specs.Clashes.{clashes}
use Rattle.run_examples.specs.Calls.{starting, waiting, taken_of}
use Rattle.client_order.specs.Order.{no_later}
use Rattle.run_examples.proofs.call_examples.requests_clash.Goals as goal
use Rattle.run_rules.specs.Examples.{request_taken}
use Rattle.request_reader.specs.Line.{Request}

pub returns-clause-other : goal.returns-clause-other
returns-clause-other c = record {
  there = record { request = waiting; asked = (0, omega arith, refl); client_is = refl; number_is = refl; clashes = refl };
  first = All-from_recursion (λ (r : Request). clashes (taken_of request_taken) r ≡ true → no_later (codes "a", 1) (r.client, r.number) ≡ true) (waiting ∷ []) ((λ is. refl), tt);
}

pub returns-clause-not_taken : goal.returns-clause-not_taken
returns-clause-not_taken c = All-from_recursion (λ (r : Request). clashes (taken_of (fresh 0)) r ≡ false) (waiting ∷ []) (refl, tt)

pub returns-clause-same : goal.returns-clause-same
returns-clause-same c = All-from_recursion (λ (r : Request). clashes (taken_of request_taken) r ≡ false) (starting ∷ []) (refl, tt)

pub returns-clause-others_clash : goal.returns-clause-others_clash
returns-clause-others_clash c = λ none. let no : true ≡ false = none 0 waiting (omega arith) in cc no

pub returns-clause-none_clashes : goal.returns-clause-none_clashes
returns-clause-none_clashes c = λ name number clash. let no : false ≡ true = clash.there.clashes in cc no
