-- Tasks by their numbers.
use Rattle.std.proofs.Common.{◌≡◌, ◌∙◌, ◌<◌, ◌≤◌, ◌+◌, ℕ, suc, zero, List, [], ◌∷◌, ◌++◌, length, get_or, Bool, true, false, Option, Some, None, option_map, option_copied, is_some, not, if◌then◌else◌, Bor, refl, ap, sym, arith}
use Rattle.std.proofs.Math.ListN.{set}
use Rattle.flow_syntax.specs.Machine.{Arrival, is_open, task_at, with_arrival}
use Rattle.flow_syntax.specs.Machine as plain
use Rattle.flow_tasks.specs.declared.tasks.Task.{Task}
use Rattle.flow_tasks.specs.declared.tasks.Arrival.{Arrival as Arrived}
use Rattle.flow_tasks.specs.Changes.{can_arrive, tasks_with}
use Rattle.flow_tasks.specs.Views.{kind_of, arrival_of, task_of, tasks_of}

-- a number in the rest, as one in the whole
abbrev pub later_by : ℕ → Option ℕ → Option ℕ
later_by n None = None
later_by n (Some place) = Some (n + place)

-- the rest behind what is done
abbrev pub behind : {Y : Type 0} → List Y → Option (List Y) → Option (List Y)
behind done None = None
behind done (Some more) = Some (done ++ more)

pub there : (tasks : List Task) (number : ℕ) (task : Task) → number < length tasks → task ≡ get_or tasks number task → task_at (tasks_of tasks) number ≡ Some (task_of task)
there [] number task here is = absurd (omega arith)
there (first ∷ tasks) zero task here is = ap (λ (t : Task). Some (task_of t)) (sym is)
there (first ∷ tasks) (suc number) task here is = there tasks number task (omega arith) is

pub not_there : (tasks : List Task) (number : ℕ) → length tasks ≤ number → task_at (tasks_of tasks) number ≡ None
not_there [] number here = refl
not_there (first ∷ tasks) zero here = absurd (omega arith)
not_there (first ∷ tasks) (suc number) here = not_there tasks number (omega arith)

-- the result is written at its task
pub written : (tasks : List Task) (number : ℕ) (was now : Task) (arrival : Arrival) → number < length tasks → was ≡ get_or tasks number was
    → task_of now ≡ record (task_of was) { arrival = Some arrival } → tasks_of (set tasks number now) ≡ with_arrival (tasks_of tasks) number arrival
written [] number was now arrival here is changed = absurd (omega arith)
written (first ∷ tasks) zero was now arrival here is changed =
    ap (λ (t : plain.Task). t ∷ tasks_of tasks) (changed ∙ ap (λ (t : Task). record (task_of t) { arrival = Some arrival }) is)
written (first ∷ tasks) (suc number) was now arrival here is changed = ap (λ (l : List plain.Task). task_of first ∷ l) (written tasks number was now arrival (omega arith) is changed)

-- a result that is lent is that of the task
pub seen : (lent : Option (Bor Arrived)) (task : Task) → option_copied lent ≡ task.arrival → option_map (λ (a : Bor Arrived). arrival_of a.now) lent ≡ option_map arrival_of task.arrival
seen None task is = ap (option_map arrival_of) is
seen (Some lent) task is = ap (option_map arrival_of) is

pub open_where_none : (result : Bool) (task : Task) → not result ≡ is_some task.arrival → result ≡ is_open (task_of task).arrival
open_where_none result task is = by_arrival result task.arrival is
  where
    by_arrival : (result : Bool) (arrival : Option Arrived) → not result ≡ is_some arrival → result ≡ is_open (option_map arrival_of arrival)
    by_arrival true None is = refl
    by_arrival false (Some a) is = refl
    by_arrival true (Some a) is = absurd (cc is)
    by_arrival false None is = absurd (cc is)

-- a result arrives at a task that has none
pub arrived_at : (tasks : List Task) (number : ℕ) (was now : Task) (arrival : Arrival) → number < length tasks → was ≡ get_or tasks number was → can_arrive (task_at (tasks_of tasks) number) ≡ true
    → task_of now ≡ record (task_of was) { arrival = Some arrival } → tasks_of (set tasks number now) ≡ tasks_with (tasks_of tasks) number arrival
arrived_at tasks number was now arrival here is can changed =
    written tasks number was now arrival here is changed
    ∙ sym (ap (λ (b : Bool). if b then with_arrival (tasks_of tasks) number arrival else tasks_of tasks) can)

-- a task whose result can arrive has none
pub open_there : (tasks : List Task) (number : ℕ) (task : Task) → number < length tasks → task ≡ get_or tasks number task → can_arrive (task_at (tasks_of tasks) number) ≡ true
    → task_at (tasks_of tasks) number ≡ Some (record { kind = kind_of task.kind; arrival = None })
open_there tasks number task here is can =
    let found = there tasks number task here is in
    found ∙ ap (λ (a : Option Arrival). Some (record { kind = kind_of task.kind; arrival = a })) (by_arrival task.arrival (sym (ap can_arrive found) ∙ can))
  where
    by_arrival : (arrival : Option Arrived) → is_open (option_map arrival_of arrival) ≡ true → option_map arrival_of arrival ≡ None
    by_arrival None open_is = refl
    by_arrival (Some a) open_is = absurd (cc open_is)
