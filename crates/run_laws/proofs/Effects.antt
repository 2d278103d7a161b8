-- What a delivery makes of an instance is what it may do.
use Rattle.std.proofs.Common.{◌≡◌, ℕ, Bool, true, false, List, [], ◌∷◌, ◌++◌, Option, Some, None, refl, subst}
use Rattle.std.proofs.lemmas.List.{append-nil}
use Rattle.std.specs.Prelude.{codes}
use Rattle.dura_value.specs.declared.data.Value.{Value}
use Rattle.dura_value.specs.Ids.{Id}
use Rattle.dura_value.specs.Messages.{Reply, to_nobody, to_task, to_request, Answer, was_there, was_raised, is_unknown, Spot, Body, start, raise, query, wait, result, operate, lock, granted, release, Message}
use Rattle.flow_syntax.specs.Syntax.{Block, Flows}
use Rattle.flow_syntax.specs.Machine.{Section, outside, acquiring, inside, new_machine, Event, started, resulted, was_granted, resume, Resumed, was_raised as raised}
use Rattle.dura_model.specs.World.{Orchestration}
use Rattle.dura_model.specs.Deliveries.{Effect, stays_away, stays_so, ending, answering_all, at_end, goes_on_from, refusing, beginning, telling, flow_of, begun, to_absent, is_over, waited, raised_at, result_at, granted_at, to_present, at_stamp, to_instance}
use Rattle.dura_model.specs.Steps.{is_instance}
use Rattle.run_laws.proofs.MessageKinds.{kind_of, is_other}
use Rattle.run_laws.proofs.Does.{Does, rests, Plain, plain_does, does_then, IsSettled}
use Rattle.run_laws.proofs.Programs.{is_unborn, is_grant, Meets, resume_meets, grant_meets}

-- the section of an instance, and whether it has ended
abbrev pub section_of : Option Orchestration → Section
section_of None = outside
section_of (Some o) = o.machine.section

abbrev pub over_of : Option Orchestration → Bool
over_of None = false
over_of (Some o) = is_over o.machine.progress

-- an instance that is there has its id, and has begun
abbrev pub Sits : Id → Option Orchestration → Type 0
Sits id None = Unit {0}
Sits id (Some o) = (o.machine.id ≡ id) × (is_unborn o.machine.progress ≡ false) × (is_instance id ≡ true)

-- what is made of an instance is what it may do from this section on, ended or not
pub record Behaves (id : Id) (section : Section) (over : Bool) (e : Effect) : Type 0 where
  pub sits : Sits id e.instance
  pub does : Does id section over e.sent (section_of e.instance) (over_of e.instance)
  pub settled : IsSettled (section_of e.instance) (over_of e.instance)

-- messages with nothing behind them
plain_rests : (id : Id) (messages : List Message) (section : Section) (over : Bool) → Plain id messages → Does id section over messages section over
plain_rests id messages section over plain = subst (λ (all : List Message). Does id section over all section over) (append-nil messages) (plain_does id messages [] section section over over plain rests)

answers_plain : (id from : Id) (waiting : List (Id × ℕ)) (answer : Answer) → from ≡ id → Plain id (answering_all from waiting answer)
answers_plain id from [] answer is = tt
answers_plain id from (one ∷ waiting) answer is = (is, refl, answers_plain id from waiting answer is)

module _ (id : Id) (instance : is_instance id ≡ true) (section : Section) (over : Bool) where
  -- an event, with messages before what it makes
  going : (r : Resumed) (waiting : List (Id × ℕ)) (before : List Message) (answer : Option Answer) → Meets id section over r → Plain id before → Behaves id section over (at_end r waiting before answer)
  going r waiting before None meets plain = record {
    sits = (meets.same, meets.born, instance);
    does = plain_does id before r.sent section r.machine.section over (is_over r.machine.progress) plain meets.does;
    settled = meets.settled;
  }
  going r waiting before (Some answer) meets plain =
      let first : Does id section over (before ++ r.sent) r.machine.section (is_over r.machine.progress) =
      plain_does id before r.sent section r.machine.section over (is_over r.machine.progress) plain meets.does in
      let last : Does id r.machine.section (is_over r.machine.progress) (answering_all r.machine.id waiting answer) r.machine.section (is_over r.machine.progress) =
      plain_rests id (answering_all r.machine.id waiting answer) r.machine.section (is_over r.machine.progress) (answers_plain id r.machine.id waiting answer meets.same) in
      record {
        sits = (meets.same, meets.born, instance);
        does =
            does_then id section r.machine.section r.machine.section over (is_over r.machine.progress) (is_over r.machine.progress) (before ++ r.sent) (answering_all r.machine.id waiting answer) first last;
        settled = meets.settled;
      }

  pub going_behaves : (o : Orchestration) (e : Event) (stamp : ℕ) (before : List Message) → Meets id section over (resume o.machine e stamp) → Plain id before → Behaves id section over (goes_on_from o e stamp before)
  going_behaves o e stamp before meets plain = going (resume o.machine e stamp) o.waiting before (ending (resume o.machine e stamp).machine.progress) meets plain

-- ---- one that isn't there

refusing_plain : (id to : Id) (reply : Reply) (answer : Answer) (failure : List ℕ) → Plain id (refusing id to reply answer failure)
refusing_plain id to to_nobody answer failure = tt
refusing_plain id to (to_task number) answer failure = (refl, refl, tt)
refusing_plain id to (to_request number) answer failure = (refl, refl, tt)

beginning_plain : (id to : Id) (reply : Reply) → Plain id (beginning id to reply)
beginning_plain id to to_nobody = tt
beginning_plain id to (to_task number) = tt
beginning_plain id to (to_request number) = (refl, refl, tt)

away : (id : Id) (messages : List Message) → Plain id messages → Behaves id outside false (stays_away messages)
away id messages plain = record { sits = tt; does = plain_rests id messages outside false plain; settled = tt }

begun_behaves : (id from : Id) (argument : Value) (reply : Reply) (stamp : ℕ) (body : Option Block) → is_instance id ≡ true → Behaves id outside false (begun from id argument reply stamp body)
begun_behaves id from argument reply stamp None instance = away id (refusing id from reply is_unknown (codes "unknown")) (refusing_plain id from reply is_unknown (codes "unknown"))
begun_behaves id from argument reply stamp (Some body) instance =
    going_behaves id instance outside false (record { machine = new_machine id (Some body); waiting = [] }) (started from argument reply) stamp (beginning id from reply)
    (resume_meets (new_machine id (Some body)) (started from argument reply) stamp refl tt) (beginning_plain id from reply)

absent_behaves : (flows : Flows) (id from : Id) (stamp : ℕ) (body : Body) → is_instance id ≡ true → Behaves id outside false (to_absent flows from id stamp body)
absent_behaves flows id from stamp (start argument reply) instance = begun_behaves id from argument reply stamp (flow_of flows id) instance
absent_behaves flows id from stamp (wait number) instance = away id _ (refl, refl, tt)
absent_behaves flows id from stamp (raise event value number) instance = away id _ (refl, refl, tt)
absent_behaves flows id from stamp (query number) instance = away id _ (refl, refl, tt)
absent_behaves flows id from stamp (result reply answer) instance = away id [] tt
absent_behaves flows id from stamp (operate operation argument reply) instance = away id [] tt
absent_behaves flows id from stamp (lock of task set index) instance = away id [] tt
absent_behaves flows id from stamp (granted task) instance = away id [] tt
absent_behaves flows id from stamp release instance = away id [] tt

-- ---- one that is there

module _ (id : Id) (o : Orchestration) (sits : Sits id (Some o)) (settled : IsSettled o.machine.section (is_over o.machine.progress)) where
  abbrev Fine : Effect → Type 0
  Fine = Behaves id o.machine.section (is_over o.machine.progress)

  so : (waiting : List (Id × ℕ)) (messages : List Message) → Plain id messages → Fine (stays_so o.machine waiting messages)
  so waiting messages plain = record { sits = sits; does = plain_rests id messages o.machine.section (is_over o.machine.progress) plain; settled = settled }

  meeting : (e : Event) (stamp : ℕ) → Meets o.machine.id o.machine.section (is_over o.machine.progress) (resume o.machine e stamp) → Meets id o.machine.section (is_over o.machine.progress) (resume o.machine e stamp)
  meeting e stamp meets = subst (λ (i : Id). Meets i o.machine.section (is_over o.machine.progress) (resume o.machine e stamp)) sits.0 meets

  pub event_behaves : (e : Event) (stamp : ℕ) → is_grant e ≡ false → Fine (goes_on_from o e stamp [])
  event_behaves e stamp plain = going_behaves id sits.2 o.machine.section (is_over o.machine.progress) o e stamp [] (meeting e stamp (resume_meets o.machine e stamp plain settled)) tt

  waited_behaves : (from : Id) (number : ℕ) (answer : Option Answer) → Fine (waited o.machine o.waiting from id number answer)
  waited_behaves from number None = so _ [] tt
  waited_behaves from number (Some answer) = so _ _ (refl, refl, tt)

  raised_behaves : (from : Id) (stamp : ℕ) (event : List ℕ) (value : Value) (number : ℕ) (over : Bool) → Fine (raised_at o from id stamp event value number over)
  raised_behaves from stamp event value number true = so _ _ (refl, refl, tt)
  raised_behaves from stamp event value number false =
      going_behaves id sits.2 o.machine.section (is_over o.machine.progress) o (raised event value) stamp (telling id from number was_raised)
      (meeting (raised event value) stamp (resume_meets o.machine (raised event value) stamp refl settled)) (refl, refl, tt)

  result_at_behaves : (stamp task : ℕ) (answer : Answer) (over : Bool) → Fine (result_at o stamp task answer over)
  result_at_behaves stamp task answer true = so _ [] tt
  result_at_behaves stamp task answer false = event_behaves (resulted task answer) stamp refl

  present_behaves : (from : Id) (stamp : ℕ) (body : Body) → kind_of body ≡ is_other → Fine (to_present o from id stamp body)
  present_behaves from stamp (start argument reply) is = so _ _ (refusing_plain id from reply was_there (codes "exists"))
  present_behaves from stamp (query number) is = so _ _ (refl, refl, tt)
  present_behaves from stamp (wait number) is = waited_behaves from number (ending o.machine.progress)
  present_behaves from stamp (raise event value number) is = raised_behaves from stamp event value number (is_over o.machine.progress)
  present_behaves from stamp (result to_nobody answer) is = so _ [] tt
  present_behaves from stamp (result (to_task task) answer) is = result_at_behaves stamp task answer (is_over o.machine.progress)
  present_behaves from stamp (result (to_request number) answer) is = so _ [] tt
  present_behaves from stamp (operate operation argument reply) is = so _ [] tt
  present_behaves from stamp (lock of task set index) is = absurd (cc is)
  present_behaves from stamp (granted task) is = absurd (cc is)
  present_behaves from stamp release is = absurd (cc is)

-- any message that isn't a lock, a grant or a release
pub other_behaves : (flows : Flows) (id from : Id) (there : Option Orchestration) (stamp : ℕ) (body : Body) → is_instance id ≡ true → Sits id there → IsSettled (section_of there) (over_of there) → kind_of body ≡ is_other
    → Behaves id (section_of there) (over_of there) (to_instance flows there from id stamp body)
other_behaves flows id from None stamp body instance sits settled is = absent_behaves flows id from stamp body instance
other_behaves flows id from (Some o) stamp body instance sits settled is = present_behaves id (at_stamp o stamp) sits settled from stamp body is

-- a grant that the instance waits for
granted_behaves : (id : Id) (o : Orchestration) (task : ℕ) (set : List Spot) (stamp : ℕ) (over : Bool) → Sits id (Some o) → o.machine.section ≡ acquiring task set → Behaves id (inside set) (is_over o.machine.progress) (granted_at o stamp task over)
granted_behaves id o task set stamp over sits waits = by over (subst (λ (i : Id). Meets i (inside set) (is_over o.machine.progress) (resume o.machine (was_granted task) stamp)) sits.0 (grant_meets o.machine task set stamp waits sits.1))
  where
    by : (over : Bool) → Meets id (inside set) (is_over o.machine.progress) (resume o.machine (was_granted task) stamp) → Behaves id (inside set) (is_over o.machine.progress) (granted_at o stamp task over)
    by true meets = record { sits = (meets.same, meets.born, sits.2); does = meets.does; settled = meets.settled }
    by false meets = going_behaves id sits.2 (inside set) (is_over o.machine.progress) o (was_granted task) stamp [] meets tt

pub grant_behaves : (flows : Flows) (id from : Id) (o : Orchestration) (task : ℕ) (set : List Spot) (stamp : ℕ) → Sits id (Some o) → o.machine.section ≡ acquiring task set
    → Behaves id (inside set) (is_over o.machine.progress) (to_instance flows (Some o) from id stamp (granted task))
grant_behaves flows id from o task set stamp sits waits = granted_behaves id (at_stamp o stamp) task set stamp (is_over o.machine.progress) sits waits
