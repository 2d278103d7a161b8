-- What each kind of message makes of a receiver that is absent, runs, or has ended; of an entity; of a client.
use Rattle.std.specs.Prelude.{◌≡◌, ℕ, List, [], ◌∷◌, map, codes, pos, Bool, true, false, Option, Some, None, option_map}
use Rattle.dura_value.specs.declared.data.Scalar.TheVariants as scalars
use Rattle.dura_value.specs.declared.data.Value.{Value}
use Rattle.dura_value.specs.declared.data.Value.TheVariants as values
use Rattle.dura_value.specs.Ids.{Id, orchestration, entity, client}
use Rattle.dura_value.specs.Messages.{Reply, to_nobody, to_task, to_request, Answer, is_done, has_failed, was_started, was_there, is_unknown, was_raised, has_ended, is_missing, is_running, is_value, Spot, Body, start, raise, query, wait, result, operate, lock, granted, release, Message}
use Rattle.flow_syntax.specs.Syntax.{scalar, variable, binary, add, let_be, spawn, event, await, return, fail, lock_in, nothing, first_then, Flows}
use Rattle.flow_syntax.specs.Machine.{Machine, Event, outside, Progress, running, done, failed, new_machine, resume, started, resulted, fired, was_granted, spot_of, Resumed, was_raised as raised}
use Rattle.flow_syntax.specs.Entity.{Entity, Delivered, takes, deliver}
use Rattle.dura_model.specs.World.{World, Orchestration, empty}
use Rattle.dura_value.specs.ById.{at_number}
use Rattle.dura_model.specs.Deliveries.{Effect, to_instance}
use Rattle.dura_model.specs.Steps.{to_client}
use Rattle.worked_rows.specs.Made.{named, class_with, locked, message}

-- ---- who there is

abbrev pub a : Id
a = client (codes "a")

abbrev pub p : Id
p = orchestration (codes "P") (codes "p")

abbrev pub x : Id
x = orchestration (codes "Waits") (codes "x")

abbrev pub n : Id
n = orchestration (codes "Nope") (codes "x")

abbrev pub five : Value
five = values.Int (pos 5)

-- a flow that waits for an event and ends with its value, and a class with operations that return, don't, and fail
abbrev pub flows : Flows
flows = record {
  flows = named (codes "Waits") (first_then (event (codes "h") (codes "go")) (first_then (await (codes "v") (variable (codes "h"))) (first_then (return (variable (codes "v"))) nothing))) ∷ [];
  classes = named (codes "C") (class_with five (
      named (codes "get") (first_then (return (variable (codes "self"))) nothing)
      ∷ named (codes "set") (first_then (let_be (codes "self") (variable (codes "arg"))) nothing)
      ∷ named (codes "spoil") (first_then (let_be (codes "self") (variable (codes "arg"))) (first_then (fail (scalar (scalars.Text (codes "no")))) nothing)) ∷ [])) ∷ [];
}

abbrev pub tell : Id → Id → ℕ → Answer → Message
tell from to number answer = message from to (result (to_request number) answer)

-- ---- instances

abbrev pub sent_by : Option Orchestration → Id → Id → Body → List Message
sent_by o from to body = (to_instance flows o from to 7 body).sent

abbrev pub instance_after : Option Orchestration → Id → Id → Body → Option Orchestration
instance_after o from to body = (to_instance flows o from to 7 body).instance

abbrev pub progress_after : Option Orchestration → Id → Id → Body → Option Progress
progress_after o from to body = option_map (λ (o : Orchestration). o.machine.progress) (instance_after o from to body)

abbrev pub events_after : Option Orchestration → Id → Id → Body → Option ℕ
events_after o from to body = option_map (λ (o : Orchestration). o.machine.events) (instance_after o from to body)

-- it runs, and the client's request 9 waits for its end
abbrev pub runs : Option Orchestration
runs = instance_after (instance_after None a x (start values.Null (to_request 1))) a x (wait 9)

-- it has ended with 5
abbrev pub over : Option Orchestration
over = instance_after runs a x (raise (codes "go") five 8)

-- requests and other messages, each once
abbrev pub bodies : List Body
bodies =
    start values.Null to_nobody ∷ wait 2 ∷ raise (codes "go") five 3 ∷ raise (codes "stop") five 3 ∷ query 4 ∷ result (to_request 5) (is_done five) ∷ result to_nobody (is_done five)
    ∷ result (to_task 6) (is_done five) ∷ granted 0 ∷ operate (codes "get") values.Null (to_request 6) ∷ lock a 0 [] 0 ∷ release ∷ []

abbrev pub AbsentAgree : Type 0
AbsentAgree =
    (sent_by None a x (start values.Null (to_request 1)) ≡ tell x a 1 was_started ∷ [])
    × (progress_after None a x (start values.Null (to_request 1)) ≡ Some running)
    × (sent_by None p x (start values.Null (to_task 1)) ≡ [])
    × (sent_by None a n (start values.Null (to_request 1)) ≡ tell n a 1 is_unknown ∷ [])
    × (sent_by None p n (start values.Null (to_task 1)) ≡ message n p (result (to_task 1) (has_failed (codes "unknown"))) ∷ [])
    × (sent_by None p n (start values.Null to_nobody) ≡ [])
    × (progress_after None a n (start values.Null (to_request 1)) ≡ None)
    × (map (sent_by None a x) bodies
    ≡ [] ∷ (tell x a 2 is_missing ∷ []) ∷ (tell x a 3 is_missing ∷ []) ∷ (tell x a 3 is_missing ∷ []) ∷ (tell x a 4 is_missing ∷ []) ∷ [] ∷ [] ∷ [] ∷ [] ∷ [] ∷ [] ∷ [] ∷ [])
    × (map (progress_after None a x) bodies ≡ Some running ∷ None ∷ None ∷ None ∷ None ∷ None ∷ None ∷ None ∷ None ∷ None ∷ None ∷ None ∷ [])

abbrev pub RunningAgree : Type 0
RunningAgree =
    (sent_by runs a x (start values.Null (to_request 1)) ≡ tell x a 1 was_there ∷ [])
    × (sent_by runs p x (start values.Null (to_task 1)) ≡ message x p (result (to_task 1) (has_failed (codes "exists"))) ∷ [])
    × (map (sent_by runs a x) bodies
    ≡ [] ∷ [] ∷ (tell x a 3 was_raised ∷ tell x a 9 (is_done five) ∷ []) ∷ (tell x a 3 was_raised ∷ []) ∷ (tell x a 4 is_running ∷ []) ∷ [] ∷ [] ∷ [] ∷ [] ∷ [] ∷ [] ∷ [] ∷ [])
    × (map (progress_after runs a x) bodies
    ≡ Some running ∷ Some running ∷ Some (done five) ∷ Some running ∷ Some running ∷ Some running ∷ Some running ∷ Some running ∷ Some running ∷ Some running ∷ Some running ∷ Some running ∷ [])
    -- what is an event of its history counts, and nothing else does
    × (map (events_after runs a x) bodies ≡ Some 1 ∷ Some 1 ∷ Some 2 ∷ Some 2 ∷ Some 1 ∷ Some 1 ∷ Some 1 ∷ Some 2 ∷ Some 2 ∷ Some 1 ∷ Some 1 ∷ Some 1 ∷ [])
    -- and each delivery is its last one
    × (option_map (λ (o : Orchestration). o.machine.last) (instance_after runs a x release) ≡ Some 7)
    × (option_map (λ (o : Orchestration). o.waiting) (instance_after runs a x (wait 2)) ≡ Some ((a, 9) ∷ (a, 2) ∷ []))

abbrev pub EndedAgree : Type 0
EndedAgree =
    (sent_by over a x (start values.Null (to_request 1)) ≡ tell x a 1 was_there ∷ [])
    × (sent_by over p x (start values.Null (to_task 1)) ≡ message x p (result (to_task 1) (has_failed (codes "exists"))) ∷ [])
    × (map (sent_by over a x) bodies
    ≡ [] ∷ (tell x a 2 (is_done five) ∷ []) ∷ (tell x a 3 has_ended ∷ []) ∷ (tell x a 3 has_ended ∷ []) ∷ (tell x a 4 (is_done five) ∷ []) ∷ [] ∷ [] ∷ [] ∷ [] ∷ [] ∷ [] ∷ [] ∷ [])
    × (map (events_after over a x) bodies ≡ Some 2 ∷ Some 2 ∷ Some 2 ∷ Some 2 ∷ Some 2 ∷ Some 2 ∷ Some 2 ∷ Some 2 ∷ Some 2 ∷ Some 2 ∷ Some 2 ∷ Some 2 ∷ [])
    × (map (progress_after over a x) (query 4 ∷ release ∷ []) ≡ Some (done five) ∷ Some (done five) ∷ [])

-- a task's end is told to the instance that started it
abbrev pub ParentAgrees : Type 0
ParentAgrees = sent_by (instance_after None p x (start values.Null (to_task 4))) a x (raise (codes "go") five 3) ≡ tell x a 3 was_raised ∷ message x p (result (to_task 4) (is_done five)) ∷ []

-- ---- entities

abbrev pub c : Id
c = entity (codes "C") (codes "k")

abbrev pub free : Entity
free = record { value = five; holder = None; last = 0 }

abbrev pub told : Body → Delivered
told body = deliver flows free (codes "C") p c body

abbrev pub unknown_told : Body → Delivered
unknown_told body = deliver flows (record { value = values.Null; holder = None; last = 0 }) (codes "D") p (entity (codes "D") (codes "k")) body

abbrev pub six : Value
six = values.Int (pos 6)

abbrev pub replied : Answer → List Message
replied answer = message c p (result (to_task 3) answer) ∷ []

abbrev pub set : List Spot
set = spot_of (codes "C") (codes "k") ∷ spot_of (codes "C") (codes "m") ∷ []

abbrev pub EntityAgrees : Type 0
EntityAgrees =
    (told (operate (codes "get") values.Null (to_task 3)) ≡ record { entity = free; sent = replied (is_done five) })
    × (told (operate (codes "set") six (to_task 3)) ≡ record { entity = record free { value = six }; sent = replied (is_done values.Null) })
    × (told (operate (codes "set") six to_nobody) ≡ record { entity = record free { value = six }; sent = [] })
    × (told (operate (codes "spoil") six (to_task 3)) ≡ record { entity = free; sent = replied (has_failed (codes "no")) })
    × (told (operate (codes "what") six (to_task 3)) ≡ record { entity = free; sent = replied (has_failed (codes "unknown")) })
    × (told (query 4) ≡ record { entity = free; sent = tell c p 4 (is_value five) ∷ [] })
    × (told (lock p 3 set 0) ≡ record { entity = record free { holder = Some p }; sent = message c (entity (codes "C") (codes "m")) (lock p 3 set 1) ∷ [] })
    × (told (lock p 3 set 1) ≡ record { entity = record free { holder = Some p }; sent = message c p (granted 3) ∷ [] })
    × (told release ≡ record { entity = free; sent = [] })
    × (map told (wait 1 ∷ raise (codes "go") five 1 ∷ start five (to_task 3) ∷ result (to_task 3) (is_done five) ∷ granted 1 ∷ []) ≡ map (λ (body : Body). record { entity = free; sent = [] }) (wait 1 ∷ wait 1 ∷ wait 1 ∷ wait 1 ∷ wait 1 ∷ []))
    × ((unknown_told (operate (codes "get") five (to_request 3))).sent ≡ tell (entity (codes "D") (codes "k")) p 3 (has_failed (codes "unknown")) ∷ [])
    × ((unknown_told (query 3)).sent ≡ tell (entity (codes "D") (codes "k")) p 3 is_missing ∷ [])
    × (map (takes None) (p ∷ a ∷ []) ≡ true ∷ true ∷ [])
    × (map (takes (Some p)) (p ∷ x ∷ a ∷ c ∷ []) ≡ true ∷ false ∷ false ∷ false ∷ [])

-- ---- clients

-- the client's request 5 was taken
abbrev pub asked : World
asked = record empty { taken = at_number empty.taken a 5 (Some (message a x (wait 5))) }

abbrev pub ClientAgrees : Type 0
ClientAgrees =
    ((to_client asked a (result (to_request 5) (is_done five))).answers a 5 ≡ Some (is_done five))
    × ((to_client asked a (result (to_request 6) (is_done five))).answers a 6 ≡ None)
    × ((to_client asked a (result (to_task 5) (is_done five))).answers a 5 ≡ None)
    × ((to_client asked a (result to_nobody (is_done five))).answers a 5 ≡ None)
    × (map (λ (body : Body). (to_client asked a body).answers a 5) (wait 5 ∷ query 5 ∷ granted 5 ∷ release ∷ []) ≡ None ∷ None ∷ None ∷ None ∷ [])

-- ---- the most events

abbrev pub machine_in : Option Orchestration → Machine
machine_in None = new_machine x None
machine_in (Some o) = o.machine

-- it has had one event less than the most, and just so many
abbrev pub nearly : Machine
nearly = record (machine_in runs) { events = 9999 }

abbrev pub full : Machine
full = record (machine_in runs) { events = 10_000 }

-- it waits with task 0 for the two entities, and has had the most events
abbrev pub acquiring_full : Machine
acquiring_full =
    record (resume (new_machine p (Some (first_then (lock_in (locked (codes "C") (scalar (scalars.Text (codes "m"))) ∷ locked (codes "C") (scalar (scalars.Text (codes "k"))) ∷ []) nothing) nothing))) (started a values.Null (to_request 1)) 0).machine { events = 10_000 }

abbrev pub releases : List Message
releases = message p c release ∷ message p (entity (codes "C") (codes "m")) release ∷ []

abbrev pub LimitAgrees : Type 0
LimitAgrees =
    ((resume nearly (raised (codes "stop") five) 7).machine.progress ≡ running)
    × ((resume full (raised (codes "stop") five) 7).machine.progress ≡ failed (codes "history"))
    × ((resume full (raised (codes "go") five) 7).machine.progress ≡ failed (codes "history"))
    -- where it is the grant of a set, the set is given back
    × ((resume acquiring_full (was_granted 0) 7).sent ≡ releases)
    × ((resume acquiring_full (was_granted 0) 7).machine.progress ≡ failed (codes "history"))
    -- one that has ended before its grant came gives the set back when it comes, and its end stays
    × ((resume acquiring_full (fired 5) 7).sent ≡ [])
    × ((resume (resume acquiring_full (fired 5) 7).machine (was_granted 0) 8).sent ≡ releases)
    × ((resume (resume acquiring_full (fired 5) 7).machine (was_granted 0) 8).machine.progress ≡ failed (codes "history"))
    × ((resume (resume (resume acquiring_full (fired 5) 7).machine (was_granted 0) 8).machine (was_granted 0) 9).sent ≡ [])
    -- a history that doesn't begin with a start, or is of an unknown flow
    × ((resume (new_machine x None) (started a five (to_request 1)) 7).machine.progress ≡ failed (codes "unknown"))
    × ((resume (new_machine x (Some nothing)) (raised (codes "go") five) 7).machine.progress ≡ failed (codes "unknown"))
    -- an end is never changed by what comes later
    × ((resume (machine_in over) (raised (codes "go") six) 7).machine.progress ≡ done five)
    × ((resume (machine_in over) (started a six (to_request 1)) 7).machine.progress ≡ done five)

-- ---- events that find nothing

-- it runs an activity, and awaits an event before the activity's result
abbrev pub patient : Machine
patient =
    (resume (new_machine x (Some (first_then (spawn (codes "h") (codes "echo") (scalar (scalars.Int (pos 1)))) (first_then (event (codes "e") (codes "go")) (first_then (await (codes "v") (variable (codes "e")))
    (first_then (await (codes "v") (variable (codes "h"))) (first_then (return (variable (codes "v"))) nothing))))))) (started a values.Null (to_request 1)) 0).machine

abbrev pub resumed_twice : Machine → Event → Event → Machine
resumed_twice m first second = (resume (resume m first 1).machine second 2).machine

abbrev pub FindNothing : Type 0
FindNothing =
    -- a task's first result counts, and a task that isn't there finds nothing
    ((resume (resumed_twice patient (resulted 0 (is_done five)) (resulted 0 (is_done six))) (raised (codes "go") values.Null) 3).machine.progress ≡ done five)
    × ((resume (resumed_twice patient (resulted 0 (is_done five)) (resulted 7 (is_done six))) (raised (codes "go") values.Null) 3).machine.progress ≡ done five)
    × ((resumed_twice patient (resulted 7 (is_done six)) (fired 9)).events ≡ 3)
    -- an answer that is no end of a task finds nothing
    × ((resume (resumed_twice patient (resulted 0 was_started) (resulted 0 (is_done six))) (raised (codes "go") values.Null) 3).machine.progress ≡ done six)
    -- a grant that nobody waits for changes nothing
    × ((resumed_twice patient (was_granted 0) (was_granted 1)).section ≡ outside)
    × ((resume patient (was_granted 0) 1).sent ≡ [])
