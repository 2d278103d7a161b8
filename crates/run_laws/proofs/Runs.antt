-- Each step keeps the invariant, so each legal run does.
use Rattle.std.proofs.Common.{◌≡◌, ◌&&◌, ◌==◌, ℕ, Bool, true, false, cond, List, [], ◌∷◌, ◌++◌, Option, Some, None, refl, ap, subst, ◌∙◌}
use Rattle.std.specs.Prelude.{nat_le}
use Rattle.std.specs.Option.{option_and_then}
use Rattle.activity_table.specs.Table.{may}
use Rattle.dura_value.specs.declared.outcome.Outcome.{Outcome}
use Rattle.dura_value.specs.Ids.{Id, orchestration, entity, client, id_eq}
use Rattle.dura_value.specs.Messages.{Body, start, raise, query, wait, result, operate, lock, granted, release, Message}
use Rattle.flow_syntax.specs.Syntax.{Flows}
use Rattle.flow_syntax.specs.Machine.{resulted, fired, Event}
use Rattle.flow_syntax.specs.Entity.{takes, deliver as deliver_to}
use Rattle.dura_model.specs.World.{World, Orchestration, Activity, empty, at_link}
use Rattle.dura_value.specs.ById.{at_id, at_number}
use Rattle.dura_model.specs.Deliveries.{to_instance, goes_on_from, is_over}
use Rattle.dura_model.specs.Steps.{Label, take, deliver, finish, fire, sent, stands_as, is_client, is_asking, number_in, is_number, is_request, taken, last_of, entity_of, entity_stands, to_entity, to_client, received, delivered, answer_of, finished, timed, step}
use Rattle.dura_model.specs.Legal.{Legal, after_from}
use Rattle.run_laws.proofs.MessageKinds.{kind_of, is_other}
use Rattle.run_laws.proofs.Effects.{event_behaves}
use Rattle.run_laws.proofs.Entities.{entity_holder, reaches, client_told, client_with}
use Rattle.run_laws.proofs.Keeps.{Fits, Keeps, With, holders, keeps_with, sent_with, stands_with, guarded, instance_keeps, arrives}
use Rattle.run_laws.proofs.Programs.{is_grant}
use Rattle.run_laws.proofs.Tallies.{quiet, other_pushed}
use Rattle.std.proofs.lemmas.Bool.{and_parts}
use Rattle.dura_value.proofs.Basics.{some_same}

-- ---- requests

asking_plain : (body : Body) (to : Id) → is_asking body to ≡ true → kind_of body ≡ is_other
asking_plain (start argument reply) to is = refl
asking_plain (raise event value number) to is = refl
asking_plain (query number) to is = refl
asking_plain (wait number) to is = refl
asking_plain (result reply answer) to is = refl
asking_plain (operate operation argument reply) to is = refl
asking_plain (lock id task set index) to is = absurd (cc is)
asking_plain (granted task) to is = absurd (cc is)
asking_plain release to is = absurd (cc is)

request_plain : (who : Id) (number : ℕ) (message : Message) → is_request who number message ≡ true → kind_of message.body ≡ is_other
request_plain who number message is =
    let parts = and_parts (is_client who) (id_eq message.from who && (is_asking message.body message.to && (number_in message.body == number && is_number number))) is in
    let more = and_parts (id_eq message.from who) (is_asking message.body message.to && (number_in message.body == number && is_number number)) parts.1 in
    asking_plain message.body message.to (and_parts (is_asking message.body message.to) (number_in message.body == number && is_number number) more.1).0

allowed : (test : Bool) (x : Option World) (y : World) → cond test x None ≡ Some y → (test ≡ true) × (x ≡ Some y)
allowed true x y is = (refl, is)
allowed false x y is = absurd (cc is)

taken_keeps : (w : World) (who : Id) (number : ℕ) (message : Message) (before : Option Message) (next : World) → Keeps w → kind_of message.body ≡ is_other → taken w who number message before ≡ Some next → Keeps next
taken_keeps w who number message None next invariant plain is =
    let v = record w { taken = at_number w.taken who number (Some message) } in
    let has = sent_with v (message ∷ []) in
    subst Keeps (some_same is)
    (keeps_with w.orchestrations w.entities (at_link w.links message.from message.to (w.links message.from message.to ++ message ∷ [])) (sent v (message ∷ []))
    (record { instances_are = has.instances_are; entities_are = has.entities_are; links_are = has.links_are })
    (record { places = invariant.places; tally = other_pushed invariant.places w.links (holders w.entities) message.from message.to message plain invariant.tally; fits = invariant.fits }))
taken_keeps w who number message (Some other) next invariant plain is = absurd (cc is)

-- ---- events of an instance

event_keeps : (w v : World) (id : Id) (o : Orchestration) (e : Event) (stamp : ℕ) → Keeps w → w.orchestrations id ≡ Some o → With w.orchestrations w.entities w.links v → is_grant e ≡ false → Keeps (stands_as v id (goes_on_from o e stamp []))
event_keeps w v id o e stamp invariant there same plain =
    let kept = keeps_with w.orchestrations w.entities w.links v same invariant in
    let here : v.orchestrations id ≡ Some o = ap (λ (f : Id → Option Orchestration). f id) same.instances_are ∙ there in
    let fits : Fits id (Some o) (kept.places id) = subst (λ (there : Option Orchestration). Fits id there (kept.places id)) here (kept.fits id) in
    keeps_with (at_id v.orchestrations id (goes_on_from o e stamp []).instance) v.entities _ (stands_as v id (goes_on_from o e stamp [])) (stands_with v id (goes_on_from o e stamp []))
    (instance_keeps v.orchestrations v.entities v.links kept.places id o.machine.section (is_over o.machine.progress) (goes_on_from o e stamp []) fits.sits.2 kept.tally fits.placed (λ other apart. kept.fits other)
    (event_behaves id o fits.sits fits.settled e stamp plain))

module _ (flows : Flows) where
  -- ---- deliveries

  entity_keeps : (w : World) (class key : List ℕ) (from : Id) (stamp : ℕ) (message : Message) (rest : List Message) (next : World) → Keeps w → w.links from (entity class key) ≡ message ∷ rest
      → to_entity flows (record w { links = at_link w.links from (entity class key) rest }) class from (entity class key) stamp message.body (entity_of flows class (w.entities (entity class key))) ≡ Some next → Keeps next
  entity_keeps w class key from stamp message rest next invariant there is =
      let to = entity class key in
      let v = record w { links = at_link w.links from to rest } in
      let e = entity_of flows class (w.entities to) in
      let d = deliver_to flows (record e { last = stamp }) class from to message.body in
      let guard = guarded (takes e.holder from && nat_le e.last stamp) (entity_stands v to d) next is in
      let lets = and_parts (takes e.holder from) (nat_le e.last stamp) guard.0 in
      let has = sent_with (record v { entities = at_id w.entities to (Some d.entity) }) d.sent in
      subst Keeps guard.1
      (keeps_with w.orchestrations (at_id w.entities to (Some d.entity)) _ (entity_stands v to d) (record { instances_are = has.instances_are; entities_are = has.entities_are; links_are = has.links_are })
      (reaches flows w invariant from to message rest there class (record e { last = stamp }) message.body refl refl (entity_holder flows class (w.entities to)) lets.0))

  received_keeps : (w : World) (from to : Id) (stamp : ℕ) (message : Message) (rest : List Message) (next : World) → Keeps w → w.links from to ≡ message ∷ rest
      → received flows (record w { links = at_link w.links from to rest }) from to stamp message.body ≡ Some next → Keeps next
  received_keeps w from (orchestration flow key) stamp message rest next invariant there is =
      let to = orchestration flow key in
      let v = record w { links = at_link w.links from to rest } in
      let e = to_instance flows (w.orchestrations to) from to stamp message.body in
      let guard = guarded (nat_le (last_of (w.orchestrations to)) stamp) (stands_as v to e) next is in
      subst Keeps guard.1 (keeps_with (at_id w.orchestrations to e.instance) w.entities _ (stands_as v to e) (stands_with v to e) (arrives flows w invariant from to message rest there stamp message.body refl refl))
  received_keeps w from (entity class key) stamp message rest next invariant there is = entity_keeps w class key from stamp message rest next invariant there is
  received_keeps w from (client name) stamp message rest next invariant there is =
      let to = client name in
      let v = record w { links = at_link w.links from to rest } in
      subst Keeps (some_same is) (keeps_with w.orchestrations w.entities (at_link w.links from to rest) (to_client v to message.body) (client_with v to message.body) (client_told flows w invariant from to message rest there name message.body refl refl))

  delivered_keeps : (w : World) (from to : Id) (stamp : ℕ) (link : List Message) (next : World) → Keeps w → w.links from to ≡ link → delivered flows w from to stamp link ≡ Some next → Keeps next
  delivered_keeps w from to stamp [] next invariant there is = absurd (cc is)
  delivered_keeps w from to stamp (message ∷ rest) next invariant there is = received_keeps w from to stamp message rest next invariant there is

  -- ---- activities and timers

  finished_keeps : (w : World) (id : Id) (task : ℕ) (outcome : Outcome) (o : Option Orchestration) (activity : Option Activity) (next : World) → Keeps w → w.orchestrations id ≡ o → finished w id task outcome o activity ≡ Some next → Keeps next
  finished_keeps w id task outcome (Some o) (Some activity) next invariant there is =
      let v = record w { activities = at_number w.activities id task None } in
      let e = goes_on_from o (resulted task (answer_of outcome)) o.machine.last [] in
      subst Keeps (guarded (may activity.name activity.argument outcome) (stands_as v id e) next is).1
      (event_keeps w v id o (resulted task (answer_of outcome)) o.machine.last invariant there (record { instances_are = refl; entities_are = refl; links_are = refl }) refl)
  finished_keeps w id task outcome None activity next invariant there is = absurd (cc is)
  finished_keeps w id task outcome (Some o) None next invariant there is = absurd (cc is)

  timed_keeps : (w : World) (id : Id) (task stamp : ℕ) (o : Option Orchestration) (due : Option ℕ) (next : World) → Keeps w → w.orchestrations id ≡ o → timed w id task stamp o due ≡ Some next → Keeps next
  timed_keeps w id task stamp (Some o) (Some due) next invariant there is =
      let v = record w { timers = at_number w.timers id task None } in
      let e = goes_on_from o (fired task) stamp [] in
      subst Keeps (guarded (nat_le due stamp && nat_le o.machine.last stamp) (stands_as v id e) next is).1
      (event_keeps w v id o (fired task) stamp invariant there (record { instances_are = refl; entities_are = refl; links_are = refl }) refl)
  timed_keeps w id task stamp None due next invariant there is = absurd (cc is)
  timed_keeps w id task stamp (Some o) None next invariant there is = absurd (cc is)

  pub step_keeps : (w : World) (label : Label) (next : World) → Keeps w → step flows w label ≡ Some next → Keeps next
  step_keeps w (take who number message) next invariant is =
      let guard = allowed (is_request who number message) (taken w who number message (w.taken who number)) next is in
      taken_keeps w who number message (w.taken who number) next invariant (request_plain who number message guard.0) guard.1
  step_keeps w (deliver from to stamp) next invariant is = delivered_keeps w from to stamp (w.links from to) next invariant refl is
  step_keeps w (finish id task outcome) next invariant is = finished_keeps w id task outcome (w.orchestrations id) (w.activities id task) next invariant refl is
  step_keeps w (fire id task stamp) next invariant is = timed_keeps w id task stamp (w.orchestrations id) (w.timers id task) next invariant refl is

  -- ---- runs

  runs_keep : (run : List Label) (w next : World) → Keeps w → after_from flows w run ≡ Some next → Keeps next
  runs_keep [] w next invariant is = subst Keeps (some_same is) invariant
  runs_keep (label ∷ run) w next invariant is = by (step flows w label) refl is (runs_keep run)
    where
      by : (moved : Option World) → step flows w label ≡ moved → option_and_then (λ v. after_from flows v run) moved ≡ Some next
          → ((v next : World) → Keeps v → after_from flows v run ≡ Some next → Keeps next) → Keeps next
      by None moved is rest = absurd (cc is)
      by (Some v) moved is rest = rest v next (step_keeps w label v invariant moved) is

  pub legal_keeps : (run : List Label) (w : World) → Legal flows run w → Keeps w
  legal_keeps run w legal = runs_keep run empty w
      (record {
        places = λ id. quiet [];
        tally = record { locks = λ id a b. refl; grants = λ a id. refl; count = λ id b. refl; order = λ id b. refl; sound = λ id. tt; holder = λ b id is. absurd (cc is) };
        fits = λ id. record { sits = tt; placed = refl; settled = tt };
      })
      legal
