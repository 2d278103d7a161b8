-- In a legal run only what was taken is answered.
use Rattle.std.proofs.Common.{◌≡◌, ◌∙◌, ◌==◌, ◌&&◌, ◌++◌, ℕ, Bool, true, false, cond, List, [], ◌∷◌, Option, Some, None, refl, sym, ap, subst, eqb-true}
use Rattle.std.specs.Prelude.{nat_le, is_some}
use Rattle.activity_table.specs.Table.{may}
use Rattle.dura_value.specs.declared.outcome.Outcome.{Outcome}
use Rattle.dura_value.specs.ById.{at_id, at_number}
use Rattle.dura_value.specs.Ids.{Id, orchestration, entity, client, id_eq}
use Rattle.dura_value.specs.Messages.{to_nobody, to_task, to_request, Answer, Body, start, raise, query, wait, result, operate, lock, granted, release, Message}
use Rattle.dura_value.proofs.Basics.{some_same, both_some}
use Rattle.dura_value.proofs.Ids.{id_same}
use Rattle.flow_syntax.specs.Syntax.{Flows}
use Rattle.flow_syntax.specs.Machine.{Asked, an_activity, a_timer, resulted, fired}
use Rattle.flow_syntax.specs.Entity.{takes, deliver as deliver_to}
use Rattle.dura_model.specs.World.{World, Orchestration, Activity, at_link, empty}
use Rattle.dura_model.specs.Deliveries.{Effect, to_instance, goes_on_from}
use Rattle.dura_model.specs.Steps.{Label, take, deliver, finish, fire, sent, asked, given_up, stands_as, is_request, taken, last_of, entity_of, answered, to_client, received, delivered, answer_of, finished, timed, step}
use Rattle.dura_model.specs.Legal.{Legal, after_from}
use Rattle.dura_model.proofs.Basics.{passes, passed}
use Rattle.rest_laws.specs.Requests.{AnswersTaken}

-- the same requests were taken, and the same were answered
abbrev Same : World → World → Type 0
Same w next = (next.taken ≡ w.taken) × (next.answers ≡ w.answers)

same_keeps : (w next : World) → Same w next → AnswersTaken w → AnswersTaken next
same_keeps w next same rightly who number is =
    ap (λ (f : Id → ℕ → Option Message). is_some (f who number)) same.0
    ∙ rightly who number (sym (ap (λ (f : Id → ℕ → Option Answer). is_some (f who number)) same.1) ∙ is)

-- ---- what leaves them as they are

sent_same : (w : World) (messages : List Message) → Same w (sent w messages)
sent_same w [] = (refl, refl)
sent_same w (message ∷ messages) = sent_same (record w { links = at_link w.links message.from message.to (w.links message.from message.to ++ message ∷ []) }) messages

asked_same : (w : World) (id : Id) (list : List Asked) → Same w (asked w id list)
asked_same w id [] = (refl, refl)
asked_same w id (an_activity task name argument ∷ more) = asked_same (record w { activities = at_number w.activities id task (Some (record { name = name; argument = argument })) }) id more
asked_same w id (a_timer task due ∷ more) = asked_same (record w { timers = at_number w.timers id task (Some due) }) id more

given_up_same : (w : World) (id : Id) (over : Bool) → Same w (given_up w id over)
given_up_same w id false = (refl, refl)
given_up_same w id true = (refl, refl)

stands_same : (w : World) (id : Id) (e : Effect) → Same w (stands_as w id e)
stands_same w id e =
    let stood : World = record w { orchestrations = at_id w.orchestrations id e.instance } in
    let left = given_up stood id e.gives_up in
    let a = given_up_same stood id e.gives_up in
    let b = asked_same left id e.asked in
    let c = sent_same (asked left id e.asked) e.sent in
    (c.0 ∙ b.0 ∙ a.0, c.1 ∙ b.1 ∙ a.1)

-- ---- steps

-- what is put at a place leaves nothing empty that wasn't
put_there : {X : Type 0} (f : Id → ℕ → Option X) (id : Id) (number : ℕ) (x : X) (who : Id) (other : ℕ) → is_some (f who other) ≡ true → is_some (at_number f id number (Some x) who other) ≡ true
put_there {X} f id number x who other is = by (id_eq id who && number == other)
  where
    by : (here : Bool) → is_some (cond here (Some x) (f who other)) ≡ true
    by true = refl
    by false = is

taken_keeps : (w next : World) (who : Id) (number : ℕ) (message : Message) (before : Option Message) → taken w who number message before ≡ Some next → AnswersTaken w → AnswersTaken next
taken_keeps w next who number message None is rightly =
    let v : World = record w { taken = at_number w.taken who number (Some message) } in
    let more : AnswersTaken v = λ other n has. put_there w.taken who number message other n (rightly other n has) in
    subst AnswersTaken (some_same is) (same_keeps v (sent v (message ∷ [])) (sent_same v (message ∷ [])) more)
taken_keeps w next who number message (Some other) is rightly = absurd (cc is)

answered_keeps : (w : World) (to : Id) (number : ℕ) (answer : Answer) (request : Option Message) → w.taken to number ≡ request → AnswersTaken w → AnswersTaken (answered w to number answer request)
answered_keeps w to number answer None there rightly = rightly
answered_keeps w to number answer (Some message) there rightly = λ who other is. by who other (rightly who other) (id_eq to who) refl (number == other) refl is
  where
    by : (who : Id) (other : ℕ) → (is_some (w.answers who other) ≡ true → is_some (w.taken who other) ≡ true) → (here : Bool) → id_eq to who ≡ here → (same : Bool) → (number == other) ≡ same
        → is_some (cond (here && same) (Some answer) (w.answers who other)) ≡ true → is_some (w.taken who other) ≡ true
    by who other before true here true same is =
        subst (λ (n : ℕ). is_some (w.taken who n) ≡ true) (eqb-true number other same) (subst (λ (i : Id). is_some (w.taken i number) ≡ true) (id_same to who here) (ap is_some there))
    by who other before true here false same is = before is
    by who other before false here same same_is is = before is

client_keeps : (w : World) (to : Id) (body : Body) → AnswersTaken w → AnswersTaken (to_client w to body)
client_keeps w to (result (to_request number) answer) rightly = answered_keeps w to number answer (w.taken to number) refl rightly
client_keeps w to (result to_nobody answer) rightly = rightly
client_keeps w to (result (to_task task) answer) rightly = rightly
client_keeps w to (start argument reply) rightly = rightly
client_keeps w to (raise event value number) rightly = rightly
client_keeps w to (query number) rightly = rightly
client_keeps w to (wait number) rightly = rightly
client_keeps w to (operate operation argument reply) rightly = rightly
client_keeps w to (lock id task set index) rightly = rightly
client_keeps w to (granted task) rightly = rightly
client_keeps w to release rightly = rightly

module _ (flows : Flows) where
  received_keeps : (w next : World) (from to : Id) (stamp : ℕ) (body : Body) → received flows w from to stamp body ≡ Some next → AnswersTaken w → AnswersTaken next
  received_keeps w next from (orchestration flow key) stamp body is =
      let to = orchestration flow key in
      let after = stands_as w to (to_instance flows (w.orchestrations to) from to stamp body) in
      subst (λ (v : World). AnswersTaken w → AnswersTaken v) (passed (nat_le (last_of (w.orchestrations to)) stamp) after next is).1
      (same_keeps w after (stands_same w to (to_instance flows (w.orchestrations to) from to stamp body)))
  received_keeps w next from (entity class key) stamp body is =
      let to = entity class key in
      let e = entity_of flows class (w.entities to) in
      let d = deliver_to flows (record e { last = stamp }) class from to body in
      let u : World = record w { entities = at_id w.entities to (Some d.entity) } in
      subst (λ (v : World). AnswersTaken w → AnswersTaken v) (passed (takes e.holder from && nat_le e.last stamp) (sent u d.sent) next is).1 (same_keeps w (sent u d.sent) (sent_same u d.sent))
  received_keeps w next from (client name) stamp body is = subst (λ (v : World). AnswersTaken w → AnswersTaken v) (some_same is) (client_keeps w (client name) body)

  delivered_keeps : (w next : World) (from to : Id) (stamp : ℕ) (link : List Message) → delivered flows w from to stamp link ≡ Some next → AnswersTaken w → AnswersTaken next
  delivered_keeps w next from to stamp [] is = absurd (cc is)
  delivered_keeps w next from to stamp (message ∷ rest) is = received_keeps (record w { links = at_link w.links from to rest }) next from to stamp message.body is

finished_keeps : (w next : World) (id : Id) (task : ℕ) (outcome : Outcome) (there : Option Orchestration) (pending : Option Activity) → finished w id task outcome there pending ≡ Some next → AnswersTaken w → AnswersTaken next
finished_keeps w next id task outcome None pending is = absurd (cc is)
finished_keeps w next id task outcome (Some o) None is = absurd (cc is)
finished_keeps w next id task outcome (Some o) (Some activity) is =
    let e = goes_on_from o (resulted task (answer_of outcome)) o.machine.last [] in
    let v : World = record w { activities = at_number w.activities id task None } in
    subst (λ (u : World). AnswersTaken w → AnswersTaken u) (passed (may activity.name activity.argument outcome) (stands_as v id e) next is).1 (same_keeps w (stands_as v id e) (stands_same v id e))

timed_keeps : (w next : World) (id : Id) (task stamp : ℕ) (there : Option Orchestration) (timer : Option ℕ) → timed w id task stamp there timer ≡ Some next → AnswersTaken w → AnswersTaken next
timed_keeps w next id task stamp None timer is = absurd (cc is)
timed_keeps w next id task stamp (Some o) None is = absurd (cc is)
timed_keeps w next id task stamp (Some o) (Some due) is =
    let e = goes_on_from o (fired task) stamp [] in
    let v : World = record w { timers = at_number w.timers id task None } in
    subst (λ (u : World). AnswersTaken w → AnswersTaken u) (passed (nat_le due stamp && nat_le o.machine.last stamp) (stands_as v id e) next is).1 (same_keeps w (stands_as v id e) (stands_same v id e))

step_keeps : (flows : Flows) (w next : World) (label : Label) → step flows w label ≡ Some next → AnswersTaken w → AnswersTaken next
step_keeps flows w next (take who number message) is = taken_keeps w next who number message (w.taken who number) (passes (is_request who number message) (taken w who number message (w.taken who number)) next is).1
step_keeps flows w next (deliver from to stamp) is = delivered_keeps flows w next from to stamp (w.links from to) is
step_keeps flows w next (finish id task outcome) is = finished_keeps w next id task outcome (w.orchestrations id) (w.activities id task) is
step_keeps flows w next (fire id task stamp) is = timed_keeps w next id task stamp (w.orchestrations id) (w.timers id task) is

-- ---- runs

run_keeps : (flows : Flows) (run : List Label) (w last : World) → after_from flows w run ≡ Some last → AnswersTaken w → AnswersTaken last
run_keeps flows [] w last is rightly = subst AnswersTaken (some_same is) rightly
run_keeps flows (label ∷ run) w last is rightly =
    let first = both_some (step flows w label) (λ next. after_from flows next run) last is in
    run_keeps flows run first.0 last first.2 (step_keeps flows w first.0 label first.1 rightly)

pub answers_taken : (flows : Flows) (run : List Label) (w : World) → Legal flows run w → AnswersTaken w
answers_taken flows run w legal = run_keeps flows run empty w legal (λ who number is. is)
