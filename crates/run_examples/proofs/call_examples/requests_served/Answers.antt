use Rattle.std.proofs.Common.{◌≡◌, true, false, [], ◌∷◌, ◌++◌, List, Some, None, codes, refl, sym, ◌∙◌, ap, subst, arith}
use Rattle.std.proofs.lemmas.List.Elements.{All-from_recursion}
use Rattle.dura_model.specs.Legal.{Quiet, is_due}
use Rattle.dura_model.proofs.Kept.{fresh_empty}
use Rattle.dura_model.specs.Partition.{fresh, shown}
use Rattle.dura_model.specs.World.{World, empty}
use Rattle.dura_value.specs.Messages.{Message}
use Rattle.client_order.specs.Order.{no_later}
use Rattle.end_laws.specs.Served.{AllServed, IsFirstOpen, IsWorldAfter}
use Rattle.rest_laws.specs.Requests.{has_answer, first_open}
use Rattle.part_items.specs.Examples.{request}
use Rattle.request_reader.specs.Line.{Request}
use Rattle.run_examples.specs.Calls.{no_flows, rules_for, starting, answered}
use Rattle.run_rules.specs.Examples.{summing}
use Rattle.run_examples.proofs.call_examples.requests_served.Goals as goal
use Rattle.run_examples.proofs.Quiescent.{nobody_asks}

-- nothing is left where nobody asks and nothing happened
nothing_left : (w : World) → Quiet no_flows [] w → AllServed no_flows [] w
nothing_left w quiet = record { quiet = quiet; answered = All-from_recursion (λ (r : Request). has_answer w r.client r ≡ true) [] tt }

quiet_at_first : Quiet no_flows [] empty
quiet_at_first = record {
  delivered = λ from to stamp. refl;
  finished = λ id task. refl;
  fired = λ id task. refl;
  asked = λ before r behind is. absurd (nobody_asks before r behind is);
}

-- a request that was taken isn't due
not_due : (before : List Message) (r : Message) (behind : List Message) → request ∷ [] ≡ before ++ r ∷ behind → is_due answered before r ≡ false
not_due [] r behind is = let same : request ≡ r = cc is in subst (λ (m : Message). is_due answered [] m ≡ false) same refl
not_due (first ∷ before) r behind is = let rest : [] ≡ before ++ r ∷ behind = cc is in absurd (nobody_asks before r behind rest)

-- the one request is open
waits_for_one : IsFirstOpen (starting ∷ []) empty (codes "a") 1
waits_for_one = record {
  request = starting;
  unanswered = refl;
  number_is = refl;
  first = All-from_recursion (λ other. (r : Request) → first_open empty (starting ∷ []) other ≡ Some r → no_later (codes "a", 1) (other, r.number) ≡ true) (codes "a" ∷ [])
      ((λ r is. let same : starting ≡ r = cc is in ap (λ (x : Request). no_later (codes "a", 1) (codes "a", x.number)) (sym same)), tt);
}

pub returns-clause-nobody : goal.returns-clause-nobody
returns-clause-nobody c = nothing_left empty quiet_at_first

pub returns-clause-answered : goal.returns-clause-answered
returns-clause-answered c = record {
  quiet = record { delivered = λ from to stamp. refl; finished = λ id task. refl; fired = λ id task. refl; asked = not_due };
  answered = All-from_recursion (λ (r : Request). has_answer answered r.client r ≡ true) (starting ∷ []) (refl, tt);
}

pub returns-clause-not_answered : goal.returns-clause-not_answered
returns-clause-not_answered c = λ served. let wrong : false ≡ true = served.answered 0 starting (omega arith) in cc wrong

pub returns-clause-waits : goal.returns-clause-waits
returns-clause-waits c = waits_for_one

pub returns-clause-pending : goal.returns-clause-pending
returns-clause-pending c = λ served. let wrong : Some _ ≡ None = served.quiet.finished summing 3 in cc wrong

pub returns-clause-other_number : goal.returns-clause-other_number
returns-clause-other_number c = λ waits.
    let same : starting ≡ waits.request = cc waits.unanswered in
    let number : 2 ≡ 1 = waits.number_is ∙ ap (λ (r : Request). r.number) (sym same) in
    omega (arith, number)

pub returns-clause-another_before : goal.returns-clause-another_before
returns-clause-another_before c = λ waits. let wrong : false ≡ true = waits.first 0 (codes "a") (omega arith) starting refl in cc wrong

pub returns-clause-none_open : goal.returns-clause-none_open
returns-clause-none_open c = λ number waits. cc waits.unanswered

-- nothing was recovered, and nothing settled
nothing_after : IsWorldAfter (rules_for []) [] (shown no_flows 1 fresh)
nothing_after = record { states = fresh; made = refl; world = refl; legal = ap (λ (w : World). Some w) (sym (fresh_empty no_flows 1)) }

pub returns-clause-done : goal.returns-clause-done
returns-clause-done c = (shown no_flows 1 fresh, nothing_after, subst (λ (w : World). AllServed no_flows [] w) (sym (fresh_empty no_flows 1)) (nothing_left empty quiet_at_first))

pub returns-clause-not_done : goal.returns-clause-not_done
returns-clause-not_done c = λ served.
    let same : empty ≡ served.0 = cc served.1.legal in
    let wrong : false ≡ true = ap (λ (w : World). has_answer w (codes "a") starting) same ∙ served.2.answered 0 starting (omega arith) in
    cc wrong
