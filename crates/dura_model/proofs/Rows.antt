-- The row of an instance stands for what an effect made of it, and all that is sent comes from it.
use Rattle.std.proofs.Common.{◌≡◌, ℕ, Bool, true, false, List, [], ◌∷◌, ◌++◌, Option, Some, None, refl, sym, ap, subst, ◌∙◌}
use Rattle.std.specs.Prelude.{option_map, codes}
use Rattle.dura_value.specs.declared.data.Value.{Value}
use Rattle.dura_value.specs.Ids.{Id}
use Rattle.dura_value.specs.Messages.{Reply, to_nobody, to_task, to_request, Answer, was_there, is_unknown, Body, start, raise, query, wait, result, operate, lock, granted, release, Message, was_raised as is_raised}
use Rattle.flow_syntax.specs.Syntax.{Flows, Block}
use Rattle.flow_syntax.specs.Machine.{Machine, new_machine, Event, started, resulted, was_raised, was_granted, resume, Past, replayed}
use Rattle.dura_model.specs.World.{Orchestration}
use Rattle.dura_model.specs.Deliveries.{Effect, ending, answering_all, at_end, goes_on_from, refusing, beginning, telling, flow_of, begun, to_absent, is_over, waited, raised_at, result_at, granted_at, to_present, at_stamp, to_instance}
use Rattle.dura_model.specs.Partition.{Row, instance_in, if_running, start_event, event_of, history_of, row_after}
use Rattle.dura_model.proofs.Sending.{AllFrom, from_both, resume_keeps}

replayed_more : (m : Machine) (history : List Past) (past : Past) → replayed m (history ++ past ∷ []) ≡ (resume (replayed m history) past.event past.stamp).machine
replayed_more m [] past = refl
replayed_more m (first ∷ history) past = replayed_more (resume m first.event first.stamp).machine history past

replayed_same : (m : Machine) (history : List Past) → (replayed m history).id ≡ m.id
replayed_same m [] = refl
replayed_same m (first ∷ history) = replayed_same (resume m first.event first.stamp).machine history ∙ (resume_keeps m first.event first.stamp).same

answering_from : (id : Id) (waiting : List (Id × ℕ)) (answer : Answer) → AllFrom id (answering_all id waiting answer)
answering_from id [] answer = tt
answering_from id (one ∷ waiting) answer = (refl, answering_from id waiting answer)

refusing_from : (id to : Id) (reply : Reply) (answer : Answer) (failure : List ℕ) → AllFrom id (refusing id to reply answer failure)
refusing_from id to to_nobody answer failure = tt
refusing_from id to (to_task number) answer failure = (refl, tt)
refusing_from id to (to_request number) answer failure = (refl, tt)

beginning_from : (id to : Id) (reply : Reply) → AllFrom id (beginning id to reply)
beginning_from id to to_nobody = tt
beginning_from id to (to_task number) = tt
beginning_from id to (to_request number) = (refl, tt)

module _ (flows : Flows) (id : Id) where
  -- the machine of a row with one event more
  abbrev after_event : Option Row → Event → ℕ → Machine
  after_event row event stamp = replayed (new_machine id (flow_of flows id)) (history_of row ++ record { event = event; stamp = stamp } ∷ [])

  -- an effect on the instance of a row
  pub record Suits (row : Option Row) (stamp : ℕ) (event : Option Event) (e : Effect) : Type 0 where
    pub fits : option_map (instance_in flows id) (option_map (row_after row stamp event) e.instance) ≡ e.instance
    pub sent : AllFrom id e.sent

  resumed_fits : (m : Machine) (event : Event) (stamp : ℕ) (row : Option Row) (waiting : List (Id × ℕ)) → after_event row event stamp ≡ (resume m event stamp).machine
      → instance_in flows id (record { stamp = stamp; history = history_of row ++ record { event = event; stamp = stamp } ∷ []; waiting = waiting }) ≡ record { machine = (resume m event stamp).machine; waiting = waiting }
  resumed_fits m event stamp row waiting is =
      let r = (resume m event stamp).machine in
      let now : Machine = record r { last = stamp } in
      let last_is : now ≡ r = λ i. record r { last = sym (resume_keeps m event stamp).stamp i } in
      ap (λ (n : Machine). instance_of waiting (record n { last = stamp })) is ∙ ap (instance_of waiting) last_is
    where
      instance_of : List (Id × ℕ) → Machine → Orchestration
      instance_of left n = record { machine = n; waiting = left }

  at_end_suits : (m : Machine) (event : Event) (stamp : ℕ) (row : Option Row) (waiting : List (Id × ℕ)) (before : List Message) (answer : Option Answer) → m.id ≡ id → AllFrom id before
      → after_event row event stamp ≡ (resume m event stamp).machine → Suits row stamp (Some event) (at_end (resume m event stamp) waiting before answer)
  at_end_suits m event stamp row waiting before None same from_it is = record {
    fits = ap Some (resumed_fits m event stamp row waiting is);
    sent = from_both id before (resume m event stamp).sent from_it (subst (λ (i : Id). AllFrom i (resume m event stamp).sent) same (resume_keeps m event stamp).sent);
  }
  at_end_suits m event stamp row waiting before (Some answer) same from_it is =
      let r = resume m event stamp in
      let keeps = resume_keeps m event stamp in
      record {
        fits = ap Some (resumed_fits m event stamp row [] is);
        sent = from_both id (before ++ r.sent) (answering_all r.machine.id waiting answer) (from_both id before r.sent from_it (subst (λ (i : Id). AllFrom i r.sent) same keeps.sent))
            (subst (λ (i : Id). AllFrom i (answering_all r.machine.id waiting answer)) (keeps.same ∙ same) (answering_from r.machine.id waiting answer));
      }

  goes_on_suits : (o : Orchestration) (event : Event) (stamp : ℕ) (row : Option Row) (before : List Message) → o.machine.id ≡ id → AllFrom id before
      → after_event row event stamp ≡ (resume o.machine event stamp).machine → Suits row stamp (Some event) (goes_on_from o event stamp before)
  goes_on_suits o event stamp row before same from_it is = at_end_suits o.machine event stamp row o.waiting before (ending (resume o.machine event stamp).machine.progress) same from_it is

  row_same : (row : Row) → (instance_in flows id row).machine.id ≡ id
  row_same row = replayed_same (new_machine id (flow_of flows id)) row.history

  row_after_event : (row : Row) (event : Event) (stamp : ℕ) → after_event (Some row) event stamp ≡ (resume (instance_in flows id row).machine event stamp).machine
  row_after_event row event stamp = replayed_more (new_machine id (flow_of flows id)) row.history (record { event = event; stamp = stamp })

  pub row_goes_on : (row : Row) (event : Event) (stamp : ℕ) → Suits (Some row) stamp (Some event) (goes_on_from (instance_in flows id row) event stamp [])
  row_goes_on row event stamp = goes_on_suits (instance_in flows id row) event stamp (Some row) [] (row_same row) tt (row_after_event row event stamp)

  -- ---- a message to an instance that isn't there

  begun_suits : (from : Id) (argument : Value) (reply : Reply) (stamp : ℕ) (body : Option Block) → flow_of flows id ≡ body
      → Suits None stamp (start_event body (started from argument reply)) (begun from id argument reply stamp body)
  begun_suits from argument reply stamp None is = record { fits = refl; sent = refusing_from id from reply is_unknown (codes "unknown") }
  begun_suits from argument reply stamp (Some body) is =
      goes_on_suits (record { machine = new_machine id (Some body); waiting = [] }) (started from argument reply) stamp None (beginning id from reply) refl (beginning_from id from reply)
      (ap (λ (b : Option Block). (resume (new_machine id b) (started from argument reply) stamp).machine) is)

  absent_suits : (from : Id) (stamp : ℕ) (body : Body) → Suits None stamp (event_of flows None from id body) (to_absent flows from id stamp body)
  absent_suits from stamp (start argument reply) = begun_suits from argument reply stamp (flow_of flows id) refl
  absent_suits from stamp (wait number) = record { fits = refl; sent = (refl, tt) }
  absent_suits from stamp (raise event value number) = record { fits = refl; sent = (refl, tt) }
  absent_suits from stamp (query number) = record { fits = refl; sent = (refl, tt) }
  absent_suits from stamp (result reply answer) = record { fits = refl; sent = tt }
  absent_suits from stamp (operate operation argument reply) = record { fits = refl; sent = tt }
  absent_suits from stamp (lock other task set index) = record { fits = refl; sent = tt }
  absent_suits from stamp (granted task) = record { fits = refl; sent = tt }
  absent_suits from stamp release = record { fits = refl; sent = tt }

  -- ---- a message to an instance that is there

  waited_suits : (row : Row) (from : Id) (stamp number : ℕ) (answer : Option Answer)
      → Suits (Some row) stamp None (waited (at_stamp (instance_in flows id row) stamp).machine row.waiting from id number answer)
  waited_suits row from stamp number None = record { fits = refl; sent = tt }
  waited_suits row from stamp number (Some answer) = record { fits = refl; sent = (refl, tt) }

  raised_suits : (row : Row) (from : Id) (stamp : ℕ) (event : List ℕ) (value : Value) (number : ℕ) (over : Bool)
      → Suits (Some row) stamp (if_running over (was_raised event value)) (raised_at (at_stamp (instance_in flows id row) stamp) from id stamp event value number over)
  raised_suits row from stamp event value number true = record { fits = refl; sent = (refl, tt) }
  raised_suits row from stamp event value number false =
      goes_on_suits (at_stamp (instance_in flows id row) stamp) (was_raised event value) stamp (Some row) (telling id from number is_raised) (row_same row) (refl, tt) (row_after_event row (was_raised event value) stamp)

  result_suits : (row : Row) (stamp task : ℕ) (answer : Answer) (over : Bool)
      → Suits (Some row) stamp (if_running over (resulted task answer)) (result_at (at_stamp (instance_in flows id row) stamp) stamp task answer over)
  result_suits row stamp task answer true = record { fits = refl; sent = tt }
  result_suits row stamp task answer false =
      goes_on_suits (at_stamp (instance_in flows id row) stamp) (resulted task answer) stamp (Some row) [] (row_same row) tt (row_after_event row (resulted task answer) stamp)

  granted_suits : (row : Row) (stamp task : ℕ) (over : Bool) → Suits (Some row) stamp (Some (was_granted task)) (granted_at (at_stamp (instance_in flows id row) stamp) stamp task over)
  granted_suits row stamp task true =
      let keeps = resume_keeps (instance_in flows id row).machine (was_granted task) stamp in
      record {
        fits = ap Some (resumed_fits (instance_in flows id row).machine (was_granted task) stamp (Some row) row.waiting (row_after_event row (was_granted task) stamp));
        sent = subst (λ (i : Id). AllFrom i (resume (instance_in flows id row).machine (was_granted task) stamp).sent) (row_same row) keeps.sent;
      }
  granted_suits row stamp task false =
      goes_on_suits (at_stamp (instance_in flows id row) stamp) (was_granted task) stamp (Some row) [] (row_same row) tt (row_after_event row (was_granted task) stamp)

  present_suits : (row : Row) (from : Id) (stamp : ℕ) (body : Body)
      → Suits (Some row) stamp (event_of flows (Some (instance_in flows id row)) from id body) (to_present (at_stamp (instance_in flows id row) stamp) from id stamp body)
  present_suits row from stamp (start argument reply) = record { fits = refl; sent = refusing_from id from reply was_there (codes "exists") }
  present_suits row from stamp (query number) = record { fits = refl; sent = (refl, tt) }
  present_suits row from stamp (wait number) = waited_suits row from stamp number (ending (instance_in flows id row).machine.progress)
  present_suits row from stamp (raise event value number) = raised_suits row from stamp event value number (is_over (instance_in flows id row).machine.progress)
  present_suits row from stamp (result to_nobody answer) = record { fits = refl; sent = tt }
  present_suits row from stamp (result (to_task task) answer) = result_suits row stamp task answer (is_over (instance_in flows id row).machine.progress)
  present_suits row from stamp (result (to_request number) answer) = record { fits = refl; sent = tt }
  present_suits row from stamp (granted task) = granted_suits row stamp task (is_over (instance_in flows id row).machine.progress)
  present_suits row from stamp (operate operation argument reply) = record { fits = refl; sent = tt }
  present_suits row from stamp (lock other task set index) = record { fits = refl; sent = tt }
  present_suits row from stamp release = record { fits = refl; sent = tt }

  pub instance_suits : (row : Option Row) (from : Id) (stamp : ℕ) (body : Body)
      → Suits row stamp (event_of flows (option_map (instance_in flows id) row) from id body) (to_instance flows (option_map (instance_in flows id) row) from id stamp body)
  instance_suits None from stamp body = absent_suits from stamp body
  instance_suits (Some row) from stamp body = present_suits row from stamp body
