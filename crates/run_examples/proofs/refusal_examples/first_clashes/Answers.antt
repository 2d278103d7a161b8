use Rattle.std.proofs.Common.{◌≡◌, true, false, [], ◌∷◌, codes, refl, arith}
use Rattle.std.proofs.lemmas.List.Elements.{All-from_recursion, All-contains}
use Rattle.client_order.specs.Clashes.{clashes}
use Rattle.client_order.specs.Order.{no_later}
use Rattle.request_reader.specs.Line.{Request}
use Rattle.run_examples.specs.Calls.{waiting, waiting_too, both_taken, taken_of}
use Rattle.run_examples.proofs.refusal_examples.first_clashes.Goals as goal

pub returns-clause-first : goal.returns-clause-first
returns-clause-first c = record {
  there = record { request = waiting; asked = (1, omega arith, refl); client_is = refl; number_is = refl; clashes = refl };
  first = All-from_recursion (λ (r : Request). clashes (taken_of both_taken) r ≡ true → no_later (codes "a", 1) (r.client, r.number) ≡ true) (waiting_too ∷ waiting ∷ []) ((λ is. refl), ((λ is. refl), tt));
}

pub returns-clause-second : goal.returns-clause-second
returns-clause-second c = λ clash. let no : false ≡ true = clash.first 1 waiting (omega arith) refl in cc no

pub returns-clause-there : goal.returns-clause-there
returns-clause-there c = λ clash.
    let one : clash.there.request.number ≡ 1 = All-contains (λ (r : Request). r.number ≡ 1) (waiting_too ∷ waiting ∷ []) clash.there.request (All-from_recursion (λ (r : Request). r.number ≡ 1) (waiting_too ∷ waiting ∷ []) (refl, (refl, tt))) clash.there.asked in
    omega (arith, one, clash.there.number_is)
