use Rattle.std.proofs.Common.{◌≡◌, true, false, ℕ, [], ◌∷◌, ◌++◌, List, Some, codes, refl, sym, ◌∙◌, ap, subst}
use Rattle.std.proofs.lemmas.List.Elements.{All-from_recursion}
use Rattle.dura_model.specs.Legal.{Quiet, is_due}
use Rattle.dura_model.specs.World.{World, empty}
use Rattle.dura_value.specs.Messages.{Message}
use Rattle.client_order.specs.Order.{no_later}
use Rattle.end_laws.specs.Served.{IsFirstOpen}
use Rattle.rest_laws.specs.Requests.{first_open}
use Rattle.part_items.specs.Examples.{request}
use Rattle.dura_model.specs.Entries.{shown_by}
use Rattle.request_reader.specs.Line.{Request}
use Rattle.run_examples.specs.Calls.{no_flows, starting, second, third, held_back, out_of_turn}
use Rattle.run_examples.proofs.call_examples.runs_wait.Goals as goal
use Rattle.run_examples.proofs.Quiescent.{nobody_asks}

-- ---- one request

abbrev held : World
held = shown_by no_flows held_back

taken_once : (before : List Message) (r : Message) (behind : List Message) → request ∷ [] ≡ before ++ r ∷ behind → is_due held before r ≡ false
taken_once [] r behind is = let same : request ≡ r = cc is in subst (λ (m : Message). is_due held [] m ≡ false) same refl
taken_once (first ∷ before) r behind is = let rest : [] ≡ before ++ r ∷ behind = cc is in absurd (nobody_asks before r behind rest)

quiet_held : Quiet no_flows (request ∷ []) held
quiet_held = record { delivered = λ from to stamp. refl; finished = λ id task. refl; fired = λ id task. refl; asked = taken_once }

-- client a's request 1 is open, and no other client asks
first_of : (requests : List Request) (w : World) → first_open w requests (codes "a") ≡ Some starting
    → (other : List ℕ) → other ≡ codes "a" → (r : Request) → first_open w requests other ≡ Some r → no_later (codes "a", 1) (other, r.number) ≡ true
first_of requests w is other mine r open_there =
    let same : starting ≡ r = (let both : Some starting ≡ Some r = sym is ∙ ap (first_open w requests) (sym mine) ∙ open_there in cc both) in
    ap (λ (n : List ℕ). no_later (codes "a", 1) (n, r.number)) mine ∙ ap (λ (x : Request). no_later (codes "a", 1) (codes "a", x.number)) (sym same)

open_held : IsFirstOpen (starting ∷ []) held (codes "a") 1
open_held = record {
  request = starting;
  unanswered = refl;
  number_is = refl;
  first = All-from_recursion (λ other. (r : Request) → first_open held (starting ∷ []) other ≡ Some r → no_later (codes "a", 1) (other, r.number) ≡ true) (codes "a" ∷ [])
      (first_of (starting ∷ []) held refl (codes "a") refl, tt);
}

-- ---- three requests, the second of which alone was answered

not_due : (before : List Message) (r : Message) (behind : List Message) → request ∷ second.message ∷ third.message ∷ [] ≡ before ++ r ∷ behind → is_due out_of_turn before r ≡ false
not_due [] r behind is = let same : request ≡ r = cc is in subst (λ (m : Message). is_due out_of_turn [] m ≡ false) same refl
not_due (one ∷ []) r behind is = let same : second.message ≡ r = cc is in subst (λ (m : Message). is_due out_of_turn (one ∷ []) m ≡ false) same refl
not_due (one ∷ other ∷ []) r behind is =
    let here : request ≡ one = cc is in
    let also : second.message ≡ other = cc is in
    let same : third.message ≡ r = cc is in
    subst (λ (m : Message). is_due out_of_turn (m ∷ other ∷ []) r ≡ false) here
    (subst (λ (m : Message). is_due out_of_turn (request ∷ m ∷ []) r ≡ false) also (subst (λ (m : Message). is_due out_of_turn (request ∷ second.message ∷ []) m ≡ false) same refl))
not_due (one ∷ other ∷ another ∷ before) r behind is = let rest : [] ≡ before ++ r ∷ behind = cc is in absurd (nobody_asks before r behind rest)

-- ---- the clauses

pub returns-clause-unanswered : goal.returns-clause-unanswered
returns-clause-unanswered c = record { quiet = quiet_held; first = open_held }

pub returns-clause-due : goal.returns-clause-due
returns-clause-due c = λ number waits. let wrong : true ≡ false = waits.quiet.asked [] request [] refl in cc wrong

pub returns-clause-out_of_turn : goal.returns-clause-out_of_turn
returns-clause-out_of_turn c = record {
  quiet = record { delivered = λ from to stamp. refl; finished = λ id task. refl; fired = λ id task. refl; asked = not_due };
  first = record {
    request = starting;
    unanswered = refl;
    number_is = refl;
    first = All-from_recursion (λ other. (r : Request) → first_open out_of_turn (starting ∷ second ∷ third ∷ []) other ≡ Some r → no_later (codes "a", 1) (other, r.number) ≡ true) (codes "a" ∷ [])
        (first_of (starting ∷ second ∷ third ∷ []) out_of_turn refl (codes "a") refl, tt);
  };
}

pub returns-clause-in_turn : goal.returns-clause-in_turn
returns-clause-in_turn c = λ number waits. let wrong : true ≡ false = waits.quiet.asked (request ∷ []) third.message [] refl in cc wrong

pub returns-clause-not_waiting : goal.returns-clause-not_waiting
returns-clause-not_waiting c = λ served. cc served.2.first.unanswered

pub returns-clause-still_due : goal.returns-clause-still_due
returns-clause-still_due c = λ served.
    let same : served.0 ≡ empty = (let after : empty ≡ served.0 = cc served.1.legal in sym after) in
    let wrong : true ≡ false = subst (λ (w : World). is_due w [] request ≡ false) same (served.2.quiet.asked [] request [] refl) in
    cc wrong
