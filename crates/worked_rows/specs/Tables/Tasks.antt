-- What tasks, sections, sets and kept events come to.
use Rattle.std.specs.Prelude.{◌≡◌, ℕ, List, [], ◌∷◌, length, codes, true, false, Some, None, option_map, Ok, Err, pos, negsuc}
use Rattle.dura_value.specs.declared.outcome.Outcome.{Outcome}
use Rattle.dura_value.specs.declared.outcome.Outcome.TheVariants as outcomes
use Rattle.dura_value.specs.declared.data.Scalar.TheVariants as scalars
use Rattle.dura_value.specs.declared.data.Value.TheVariants as values
use Rattle.dura_value.specs.Messages.{Spot, is_among, set_of}
use Rattle.flow_tasks.specs.Changes.{can_arrive, tasks_with}
use Rattle.flow_syntax.specs.Machine.{Kind, of_flow, of_entity, of_timer, of_event, Arrival, Task, Candidate, outside, inside, Raised, number, spot_of, task_at, arrival_of, to_handle, to_handles, all_arrived, first_arrived, has_open_call, has_open_ask, oldest_listener, may_ask, may_signal, may_start, may_lock, kept_value, without_kept}

abbrev open_task : Kind → Task
open_task kind = record { kind = kind; arrival = None }

abbrev done : ℕ → Outcome
done n = outcomes.Done (number n)

abbrev arrival : (n order : ℕ) → Arrival
arrival n order = record { outcome = done n; order = order }

-- ---- tasks

abbrev pub aa : Spot
aa = spot_of (codes "A") (codes "a")

abbrev pub ab : Spot
ab = spot_of (codes "A") (codes "b")

abbrev pub ba : Spot
ba = spot_of (codes "B") (codes "a")

-- a started flow, an asked entity, a timer, and two handles of one event
abbrev pub waiting : List Task
waiting = open_task of_flow ∷ open_task (of_entity aa) ∷ open_task (of_timer 9) ∷ open_task (of_event (codes "go")) ∷ open_task (of_event (codes "go")) ∷ []

-- the timer's result has arrived
abbrev pub one_arrived : List Task
one_arrived = tasks_with waiting 2 (arrival 7 0)

-- and then the flow's
abbrev pub two_arrived : List Task
two_arrived = tasks_with one_arrived 0 (arrival 8 1)

-- The first result of a task stays, and of several the one that came first counts.
abbrev pub ResultsAgree : Type 0
ResultsAgree =
    (length waiting ≡ 5)
    × (first_arrived waiting 0 (0 ∷ 1 ∷ 2 ∷ []) ≡ None)
    × (can_arrive (task_at waiting 2) ≡ true)
    × (can_arrive (task_at one_arrived 0) ≡ true)
    × (can_arrive (task_at two_arrived 2) ≡ false)
    × (tasks_with two_arrived 2 (arrival 9 2) ≡ two_arrived)
    × (can_arrive (task_at two_arrived 5) ≡ false)
    × (tasks_with two_arrived 5 (arrival 9 2) ≡ two_arrived)
    × (arrival_of (task_at two_arrived 2) ≡ Some (arrival 7 0))
    × (arrival_of (task_at two_arrived 1) ≡ None)
    × (option_map (λ (c : Candidate). c.place) (first_arrived two_arrived 0 (0 ∷ 1 ∷ 2 ∷ 2 ∷ [])) ≡ Some 2)
    × (all_arrived two_arrived (0 ∷ 1 ∷ []) ≡ None)
    × (all_arrived two_arrived (2 ∷ 0 ∷ []) ≡ Some (done 7 ∷ done 8 ∷ []))

-- the entity has answered, and then the flow has ended and the first event has come
abbrev pub answered : List Task
answered = tasks_with waiting 1 (arrival 1 0)

abbrev pub heard_too : List Task
heard_too = tasks_with (tasks_with answered 0 (arrival 1 1)) 3 (arrival 1 2)

abbrev pub OpenAgree : Type 0
OpenAgree =
    (has_open_call waiting ≡ true)
    × (has_open_ask aa waiting ≡ true)
    × (has_open_ask ab waiting ≡ false)
    × (oldest_listener (codes "go") waiting ≡ Some 3)
    × (has_open_call answered ≡ true)
    × (has_open_ask aa answered ≡ false)
    × (has_open_call heard_too ≡ false)
    × (oldest_listener (codes "go") heard_too ≡ Some 4)
    × (oldest_listener (codes "stop") heard_too ≡ None)

abbrev pub HandlesAgree : Type 0
HandlesAgree =
    (to_handle waiting (values.Int (pos 4)) ≡ Ok 4)
    × (to_handle waiting (values.Int (pos 5)) ≡ Err (codes "handle"))
    × (to_handle waiting (values.Int (negsuc 0)) ≡ Err (codes "handle"))
    × (to_handle waiting values.Null ≡ Err (codes "type"))
    × (to_handles waiting (values.List (scalars.Int (pos 4) ∷ scalars.Int (pos 0) ∷ [])) ≡ Ok (4 ∷ 0 ∷ []))
    × (to_handles waiting (values.List (scalars.Null ∷ scalars.Int (pos 9) ∷ [])) ≡ Err (codes "type"))

-- ---- sets and sections

-- a set has each entity once, by class, then by key
abbrev pub set : List Spot
set = set_of (ba ∷ ab ∷ ba ∷ aa ∷ ab ∷ [])

abbrev pub SetsAgree : Type 0
SetsAgree =
    (set ≡ aa ∷ ab ∷ ba ∷ [])
    × (is_among ab set ≡ true)
    × (is_among (spot_of (codes "B") (codes "b")) set ≡ false)

abbrev pub other : Spot
other = spot_of (codes "C") (codes "a")

abbrev pub SectionsAgree : Type 0
SectionsAgree =
    (may_ask outside other waiting ≡ true)
    × (may_signal outside ab ≡ true)
    × (may_start outside ≡ true)
    × (may_lock outside [] ≡ true)
    × (may_lock outside waiting ≡ false)
    × (may_ask (inside set) ab waiting ≡ true)
    × (may_ask (inside set) other waiting ≡ false)
    -- an ask of it is open
    × (may_ask (inside set) aa waiting ≡ false)
    × (may_signal (inside set) other ≡ true)
    × (may_signal (inside set) ab ≡ false)
    × (may_start (inside set) ≡ false)
    × (may_lock (inside set) [] ≡ false)

-- ---- events that are kept

abbrev raised : List ℕ → ℕ → Raised
raised name n = record { name = name; value = number n }

abbrev pub kept : List Raised
kept = raised (codes "go") 1 ∷ raised (codes "stop") 2 ∷ raised (codes "go") 3 ∷ []

abbrev pub without_one : List Raised
without_one = without_kept (codes "go") kept

abbrev pub without_two : List Raised
without_two = without_kept (codes "go") without_one

-- Of the events of one name the oldest one is taken first.
abbrev pub KeptAgree : Type 0
KeptAgree =
    (kept_value (codes "go") kept ≡ Some (number 1))
    × (kept_value (codes "go") without_one ≡ Some (number 3))
    × (kept_value (codes "go") without_two ≡ None)
    × (kept_value (codes "stop") without_two ≡ Some (number 2))
    × (without_kept (codes "stop") without_two ≡ [])
