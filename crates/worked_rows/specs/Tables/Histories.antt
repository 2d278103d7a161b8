-- What an instance makes of the events that reach it, and the instance that they make again.
use Rattle.std.specs.Prelude.{◌≡◌, ℕ, List, [], ◌∷◌, length, codes, Some, pos}
use Rattle.dura_value.specs.declared.data.Scalar.TheVariants as scalars
use Rattle.dura_value.specs.declared.data.Value.{Value}
use Rattle.dura_value.specs.declared.data.Value.TheVariants as values
use Rattle.dura_value.specs.Ids.{Id, orchestration}
use Rattle.dura_value.specs.Messages.{to_task, is_done, result, Message}
use Rattle.flow_syntax.specs.Syntax.{scalar, variable, list, no_parts, part, Block, call, event, timer, await, return, first_then, nothing}
use Rattle.flow_syntax.specs.Machine.{Machine, Event, started, resulted, was_raised, fired, unborn, running, done, new_machine, Resumed, resume, an_activity, a_timer, number, Past, replayed}
use Rattle.worked_rows.specs.Made.{message}

-- ---- the flows

abbrev int : ℕ → Value
int n = number n

-- a call
abbrev pub sum : Block
sum =
    first_then (call (codes "s") (codes "add") (list (part (scalar (scalars.Int (pos 2))) (part (scalar (scalars.Int (pos 3))) no_parts))))
    (first_then (return (variable (codes "s"))) nothing)

-- an event that may come before it is awaited
abbrev pub early : Block
early =
    first_then (call (codes "x") (codes "echo") (scalar (scalars.Int (pos 0))))
    (first_then (event (codes "h") (codes "go")) (first_then (await (codes "v") (variable (codes "h"))) (first_then (return (variable (codes "v"))) nothing)))

-- a timer
abbrev pub nap : Block
nap =
    first_then (timer (codes "h") (scalar (scalars.Int (pos 10))))
    (first_then (await (codes "h") (variable (codes "h"))) (first_then (return (scalar (scalars.Text (codes "up")))) nothing))

-- ---- events

abbrev starter : Id
starter = orchestration (codes "Main") (codes "m")

-- a start by task 4 of another instance
abbrev pub start : Event
start = started starter values.Null (to_task 4)

abbrev pub go : ℕ → Event
go n = was_raised (codes "go") (int n)

abbrev pub came : ℕ → Event
came n = resulted 0 (is_done (int n))

abbrev pub tells : Id → Value → List Message
tells from value = message from starter (result (to_task 4) (is_done value)) ∷ []

-- ---- a call asks for its activity; with the result the instance goes on to its end, which its starter is told

abbrev sum_id : Id
sum_id = orchestration (codes "Sum") (codes "x")

abbrev pub summing : Resumed
summing = resume (new_machine sum_id (Some sum)) start 3

abbrev pub summed : Resumed
summed = resume summing.machine (came 5) 7

abbrev pub CallAgrees : Type 0
CallAgrees =
    ((new_machine sum_id (Some sum)).progress ≡ unborn)
    × (summing.sent ≡ [])
    × (summing.asked ≡ an_activity 0 (codes "add") (values.List (scalars.Int (pos 2) ∷ scalars.Int (pos 3) ∷ [])) ∷ [])
    × (summing.machine.progress ≡ running)
    × (summed.sent ≡ tells sum_id (int 5))
    × (summed.asked ≡ [])
    × (summed.machine.progress ≡ done (int 5))
    × (summed.machine.events ≡ 2)
    × (summed.machine.last ≡ 7)

-- ---- an event that nobody awaits yet is kept until it is listened for

abbrev early_id : Id
early_id = orchestration (codes "Early") (codes "x")

abbrev unborn_early : Machine
unborn_early = new_machine early_id (Some early)

abbrev past : Event → ℕ → Past
past it stamp = record { event = it; stamp = stamp }

abbrev pub raised_once : Machine
raised_once = replayed unborn_early (past start 0 ∷ past (go 7) 1 ∷ [])

abbrev pub raised_twice : Resumed
raised_twice = resume raised_once (go 8) 2

abbrev pub listening : Resumed
listening = resume raised_twice.machine (came 0) 3

abbrev pub EarlyAgrees : Type 0
EarlyAgrees =
    (raised_once.progress ≡ running)
    × (raised_twice.sent ≡ [])
    × (raised_twice.asked ≡ [])
    × (listening.sent ≡ tells early_id (int 7))
    × (listening.asked ≡ [])

-- ---- a timer is due so long after the stamp of the event that set it

abbrev nap_id : Id
nap_id = orchestration (codes "Nap") (codes "x")

abbrev pub napping : Resumed
napping = resume (new_machine nap_id (Some nap)) start 5

abbrev pub woken : Resumed
woken = resume napping.machine (fired 0) 15

abbrev pub TimerAgrees : Type 0
TimerAgrees =
    (napping.sent ≡ [])
    × (napping.asked ≡ a_timer 0 15 ∷ [])
    × (woken.sent ≡ tells nap_id (values.Text (codes "up")))
    × (woken.asked ≡ [])

-- ---- a history makes the instance that its events made one after the other

abbrev pub one_by_one : Machine
one_by_one = (resume (resume (resume unborn_early start 0).machine (came 0) 4).machine (go 7) 9).machine

abbrev pub made_again : Machine
made_again = replayed unborn_early (past start 0 ∷ past (came 0) 4 ∷ past (go 7) 9 ∷ [])

abbrev pub HistoryAgrees : Type 0
HistoryAgrees =
    (one_by_one.progress ≡ done (int 7))
    × (one_by_one.events ≡ 3)
    × (one_by_one.last ≡ 9)
    × (length one_by_one.tasks ≡ 2)
    × (one_by_one.arrivals ≡ 2)
    × (made_again ≡ one_by_one)
