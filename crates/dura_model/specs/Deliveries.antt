-- What a message makes of its receiver, as messages that are sent, activities and timers.
use Rattle.std.specs.Prelude.{ℕ, List, [], ◌∷◌, ◌++◌, codes, Bool, true, false, Option, Some, None}
use Rattle.dura_value.specs.declared.data.Value.{Value}
use Rattle.dura_value.specs.Ids.{Id, orchestration}
use Rattle.dura_value.specs.Messages.{Reply, to_nobody, to_task, to_request, Answer, is_done, has_failed, was_started, was_there, is_unknown, was_raised, has_ended, is_missing, is_running, Body, start, raise, query, wait, result, granted, Message}
use Rattle.flow_syntax.specs.Syntax.{Block, Flows, body_of}
use Rattle.flow_syntax.specs.Machine.{Machine, Progress, done, failed, new_machine, Event, started, resulted, was_raised as raised, was_granted, resume, Resumed, Asked}
use Rattle.dura_model.specs.World.{Orchestration}

-- What a delivery to an instance made: the instance, or none where it isn't there; the messages in the order in which they
-- are sent; what was asked for; and whether its pending activities and timers are given up.
pub record Effect : Type 0 where
  pub instance : Option Orchestration
  pub sent : List Message
  pub asked : List Asked
  pub gives_up : Bool

-- it isn't there, and something may be answered
abbrev pub stays_away : List Message → Effect
stays_away sent = record { instance = None; sent = sent; asked = []; gives_up = false }

-- it stays as it is, and something is answered
abbrev pub stays_so : Machine → List (Id × ℕ) → List Message → Effect
stays_so machine waiting sent = record { instance = Some (record { machine = machine; waiting = waiting }); sent = sent; asked = []; gives_up = false }

-- what an instance that has come to its end is answered with
abbrev pub ending : Progress → Option Answer
ending (done value) = Some (is_done value)
ending (failed text) = Some (has_failed text)
ending other = None

-- the answers to all clients that wait, in their order
abbrev pub answering_all : Id → List (Id × ℕ) → Answer → List Message
answering_all id [] answer = []
answering_all id (one ∷ waiting) answer = record { from = id; to = one.0; body = result (to_request one.1) answer } ∷ answering_all id waiting answer

-- At its end the clients that wait are answered, behind all that the machine sent.
abbrev pub at_end : Resumed → List (Id × ℕ) → List Message → Option Answer → Effect
at_end r waiting before None = record { instance = Some (record { machine = r.machine; waiting = waiting }); sent = before ++ r.sent; asked = r.asked; gives_up = false }
at_end r waiting before (Some answer) = record {
  instance = Some (record { machine = r.machine; waiting = [] });
  sent = before ++ r.sent ++ answering_all r.machine.id waiting answer;
  asked = [];
  gives_up = true;
}

-- An event reaches it, and this is sent before all that the machine sends.
abbrev pub goes_on_from : Orchestration → Event → ℕ → List Message → Effect
goes_on_from o event stamp before = let r = resume o.machine event stamp in at_end r o.waiting before (ending r.machine.progress)

-- a start of what can't begin: a client is answered so, and to a task it is a failure
abbrev pub refusing : Id → Id → Reply → Answer → List ℕ → List Message
refusing from to to_nobody answer failure = []
refusing from to (to_task number) answer failure = record { from = from; to = to; body = result (to_task number) (has_failed failure) } ∷ []
refusing from to (to_request number) answer failure = record { from = from; to = to; body = result (to_request number) answer } ∷ []

-- a client is told that it began
abbrev pub beginning : Id → Id → Reply → List Message
beginning from to (to_request number) = record { from = from; to = to; body = result (to_request number) was_started } ∷ []
beginning from to other = []

-- the answer to a client's request
abbrev pub telling : Id → Id → ℕ → Answer → List Message
telling from to number answer = record { from = from; to = to; body = result (to_request number) answer } ∷ []

abbrev pub flow_of : Flows → Id → Option Block
flow_of flows (orchestration flow key) = body_of flows flow
flow_of flows other = None

-- an instance begins, where its flow is there
abbrev pub begun : Id → Id → Value → Reply → ℕ → Option Block → Effect
begun from to argument reply stamp None = stays_away (refusing to from reply is_unknown (codes "unknown"))
begun from to argument reply stamp (Some body) =
    goes_on_from (record { machine = new_machine to (Some body); waiting = [] }) (started from argument reply) stamp (beginning to from reply)

-- a message to an instance that isn't there
abbrev pub to_absent : Flows → Id → Id → ℕ → Body → Effect
to_absent flows from to stamp (start argument reply) = begun from to argument reply stamp (flow_of flows to)
to_absent flows from to stamp (wait number) = stays_away (telling to from number is_missing)
to_absent flows from to stamp (raise event value number) = stays_away (telling to from number is_missing)
to_absent flows from to stamp (query number) = stays_away (telling to from number is_missing)
to_absent flows from to stamp other = stays_away []

-- how an instance stands
abbrev pub standing : Progress → Answer
standing (done value) = is_done value
standing (failed text) = has_failed text
standing other = is_running

abbrev pub is_over : Progress → Bool
is_over (done value) = true
is_over (failed text) = true
is_over other = false

-- a wait is kept, or answered where the instance has ended
abbrev pub waited : Machine → List (Id × ℕ) → Id → Id → ℕ → Option Answer → Effect
waited machine waiting from to number None = stays_so machine (waiting ++ (from, number) ∷ []) []
waited machine waiting from to number (Some answer) = stays_so machine waiting (telling to from number answer)

-- an event is raised at an instance that runs
abbrev pub raised_at : Orchestration → Id → Id → ℕ → List ℕ → Value → ℕ → (over : Bool) → Effect
raised_at o from to stamp event value number true = stays_so o.machine o.waiting (telling to from number has_ended)
raised_at o from to stamp event value number false = goes_on_from o (raised event value) stamp (telling to from number was_raised)

-- the result of a task finds an instance that runs
abbrev pub result_at : Orchestration → ℕ → ℕ → Answer → (over : Bool) → Effect
result_at o stamp task answer true = stays_so o.machine o.waiting []
result_at o stamp task answer false = goes_on_from o (resulted task answer) stamp []

-- a grant reaches one that runs as an event, and one that has ended gives the set back
abbrev pub granted_at : Orchestration → ℕ → ℕ → (over : Bool) → Effect
granted_at o stamp task true =
    let r = resume o.machine (was_granted task) stamp in record { instance = Some (record { machine = r.machine; waiting = o.waiting }); sent = r.sent; asked = []; gives_up = false }
granted_at o stamp task false = goes_on_from o (was_granted task) stamp []

-- a message to an instance that is there, at its new last stamp
abbrev pub to_present : Orchestration → Id → Id → ℕ → Body → Effect
to_present o from to stamp (start argument reply) = stays_so o.machine o.waiting (refusing to from reply was_there (codes "exists"))
to_present o from to stamp (query number) = stays_so o.machine o.waiting (telling to from number (standing o.machine.progress))
to_present o from to stamp (wait number) = waited o.machine o.waiting from to number (ending o.machine.progress)
to_present o from to stamp (raise event value number) = raised_at o from to stamp event value number (is_over o.machine.progress)
to_present o from to stamp (result (to_task task) answer) = result_at o stamp task answer (is_over o.machine.progress)
to_present o from to stamp (granted task) = granted_at o stamp task (is_over o.machine.progress)
to_present o from to stamp other = stays_so o.machine o.waiting []

abbrev pub at_stamp : Orchestration → ℕ → Orchestration
at_stamp o stamp = record o { machine = record o.machine { last = stamp } }

-- a message to an instance
abbrev pub to_instance : Flows → Option Orchestration → Id → Id → ℕ → Body → Effect
to_instance flows None from to stamp body = to_absent flows from to stamp body
to_instance flows (Some o) from to stamp body = to_present (at_stamp o stamp) from to stamp body
