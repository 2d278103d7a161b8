-- The numbers of the tasks without a result, as tasks come and results arrive.
use Rattle.std.proofs.Common.{◌≡◌, ◌∙◌, ◌<◌, ◌+◌, ℕ, suc, zero, List, [], ◌∷◌, ◌++◌, length, Bool, true, false, ◌==◌, ◌&&◌, ◌||◌, ◌⊎◌, inl, inr, Option, Some, None, if◌then◌else◌, cond, nat_lt, is_some, IsSome, ◌↔◌, refl, ap, sym, subst, arith}
use Rattle.std.proofs.lemmas.Bool.Decides.{nat_tests}
use Rattle.std.proofs.lemmas.Slice.Eq.{bytes_eq-Decides}
use Rattle.std.specs.BTreeMap.{is_at}
use Rattle.std.specs.BTreeSet.{insert_key}
use Rattle.std.specs.Cmp.{unsigned_ties}
use Rattle.std.specs.List.{list_any, slice_get}
use Rattle.std.specs.Ordering.{nat_cmp, match_ordering}
use Rattle.std.specs.Set.{remove_key}
use Rattle.std.specs.Str.{bytes_eq}
use Rattle.std.specs.declared.cmp.Ordering.{Ordering}
use Rattle.std.specs.declared.cmp.Ordering.TheVariants.{Less, Equal, Greater}
use Rattle.dura_value.specs.Messages.{Spot}
use Rattle.flow_syntax.specs.Machine.{Arrival, Task, Kind, of_entity, of_event, asks_spot, listens_for, is_open, is_call, task_at, with_arrival, later_by_one, oldest_listener, has_open_call, has_open_ask}
use Rattle.flow_tasks.specs.Numbers.{numbers_in, at_name, without}
use Rattle.flow_tasks.specs.OpenTasks.{is_open_call, is_open_ask, is_listener, passes_at, numbers_from, AreThose}
use Rattle.flow_tasks.specs.declared.tasks.Kind.{Kind as Kinds}
use Rattle.flow_tasks.specs.declared.tasks.Kind.TheVariants as kinds
use Rattle.flow_tasks.specs.declared.open_tasks.OpenTasks.{OpenTasks}
use Rattle.flow_tasks.specs.Views.{kind_of}
use Rattle.flow_tasks.proofs.Places.{later_by}
use Rattle.std.proofs.Math.Bool.{and-false, and-true}
use Rattle.dura_value.proofs.Ids.{bytes_turned}

-- ---- what the numbers say

later_suc : (n : ℕ) (o : Option ℕ) → later_by (suc n) o ≡ later_by n (later_by_one o)
later_suc n None = refl
later_suc n (Some place) = ap (λ (m : ℕ). Some m) (omega arith)

listener_from : (name : List ℕ) (k : ℕ) (tasks : List Task) → slice_get (numbers_from (is_listener name) k tasks) 0 ≡ later_by k (oldest_listener name tasks)
listener_from name k [] = refl
listener_from name k (task ∷ tasks) = by_test (is_listener name task) (listener_from name (suc k) tasks ∙ later_suc k (oldest_listener name tasks))
  where
    by_test : (b : Bool) → slice_get (numbers_from (is_listener name) (suc k) tasks) 0 ≡ later_by k (later_by_one (oldest_listener name tasks))
        → slice_get (if b then k ∷ numbers_from (is_listener name) (suc k) tasks else numbers_from (is_listener name) (suc k) tasks) 0 ≡ later_by k (if b then Some 0 else later_by_one (oldest_listener name tasks))
    by_test true rest = ap (λ (m : ℕ). Some m) (omega arith)
    by_test false rest = rest

same_number : (o : Option ℕ) → later_by 0 o ≡ o
same_number None = refl
same_number (Some n) = ap (λ (m : ℕ). Some m) (omega arith)

pub first_listener : (name : List ℕ) (tasks : List Task) → slice_get (numbers_from (is_listener name) 0 tasks) 0 ≡ oldest_listener name tasks
first_listener name tasks = listener_from name 0 tasks ∙ same_number (oldest_listener name tasks)

call_from : (k : ℕ) (tasks : List Task) → is_some (slice_get (numbers_from is_open_call k tasks) 0) ≡ has_open_call tasks
call_from k [] = refl
call_from k (task ∷ tasks) = by_test (is_open_call task) (call_from (suc k) tasks)
  where
    by_test : (b : Bool) → is_some (slice_get (numbers_from is_open_call (suc k) tasks) 0) ≡ has_open_call tasks
        → is_some (slice_get (if b then k ∷ numbers_from is_open_call (suc k) tasks else numbers_from is_open_call (suc k) tasks) 0) ≡ (b || has_open_call tasks)
    by_test true rest = refl
    by_test false rest = rest

pub first_call : (tasks : List Task) → is_some (slice_get (numbers_from is_open_call 0 tasks) 0) ≡ has_open_call tasks
first_call tasks = call_from 0 tasks

at_front : (before : List Task) (task : Task) (tasks : List Task) → task_at (before ++ task ∷ tasks) (length before) ≡ Some task
at_front [] task tasks = refl
at_front (first ∷ before) task tasks = at_front before task tasks

joined : (before : List Task) (task : Task) (tasks : List Task) → (before ++ task ∷ []) ++ tasks ≡ before ++ task ∷ tasks
joined [] task tasks = refl
joined (first ∷ before) task tasks = ap (λ l. first ∷ l) (joined before task tasks)

longer : (before : List Task) (task : Task) → length (before ++ task ∷ []) ≡ suc (length before)
longer [] task = refl
longer (first ∷ before) task = ap (λ (n : ℕ). suc n) (longer before task)

-- whether one of these numbers is that of an ask
abbrev pub asked : Spot → List Task → List ℕ → Bool
asked spot tasks numbers = list_any (λ n. passes_at (is_open_ask spot) (task_at tasks n)) numbers

ask_is_call : (spot : Spot) (kind : Kind) (waits : Bool) → (is_call kind && waits) ≡ false → (asks_spot spot kind && waits) ≡ false
ask_is_call spot (of_entity other) true is = absurd (cc is)
ask_is_call spot (of_entity other) false is = and-false (asks_spot spot (of_entity other))
ask_is_call spot other waits is = refl

ask_behind : (spot : Spot) (before tasks : List Task) → asked spot (before ++ tasks) (numbers_from is_open_call (length before) tasks) ≡ has_open_ask spot tasks
ask_behind spot before [] = refl
ask_behind spot before (task ∷ tasks) =
    let rest : asked spot (before ++ task ∷ tasks) (numbers_from is_open_call (suc (length before)) tasks) ≡ has_open_ask spot tasks =
    sym (ap (λ l. asked spot l (numbers_from is_open_call (suc (length before)) tasks)) (joined before task tasks))
    ∙ sym (ap (λ (n : ℕ). asked spot ((before ++ task ∷ []) ++ tasks) (numbers_from is_open_call n tasks)) (longer before task))
    ∙ ask_behind spot (before ++ task ∷ []) tasks in
    by_test (is_open_call task) refl rest
  where
    by_test : (b : Bool) → is_open_call task ≡ b → asked spot (before ++ task ∷ tasks) (numbers_from is_open_call (suc (length before)) tasks) ≡ has_open_ask spot tasks
        → asked spot (before ++ task ∷ tasks) (if b then length before ∷ numbers_from is_open_call (suc (length before)) tasks else numbers_from is_open_call (suc (length before)) tasks) ≡ (is_open_ask spot task || has_open_ask spot tasks)
    by_test true call rest =
        ap (λ (t : Option Task). passes_at (is_open_ask spot) t || asked spot (before ++ task ∷ tasks) (numbers_from is_open_call (suc (length before)) tasks)) (at_front before task tasks)
        ∙ ap (λ (b : Bool). is_open_ask spot task || b) rest
    by_test false call rest = rest ∙ sym (ap (λ (b : Bool). b || has_open_ask spot tasks) (ask_is_call spot task.kind (is_open task.arrival) call))

pub ask_among : (spot : Spot) (tasks : List Task) → asked spot tasks (numbers_from is_open_call 0 tasks) ≡ has_open_ask spot tasks
ask_among spot tasks = ask_behind spot [] tasks

-- ---- a task comes

one_more : (test : Task → Bool) (k : ℕ) (tasks : List Task) (task : Task) → numbers_from test k (tasks ++ task ∷ []) ≡ numbers_from test k tasks ++ (if test task then (k + length tasks) ∷ [] else [])
one_more test k [] task = ap (λ (n : ℕ). if test task then n ∷ [] else []) (omega arith)
one_more test k (first ∷ tasks) task =
    by_first (test first) (one_more test (suc k) tasks task ∙ ap (λ (n : ℕ). numbers_from test (suc k) tasks ++ (if test task then n ∷ [] else [])) (omega arith))
  where
    by_first : (b : Bool) → numbers_from test (suc k) (tasks ++ task ∷ []) ≡ numbers_from test (suc k) tasks ++ (if test task then (k + suc (length tasks)) ∷ [] else [])
        → (if b then k ∷ numbers_from test (suc k) (tasks ++ task ∷ []) else numbers_from test (suc k) (tasks ++ task ∷ []))
        ≡ (if b then k ∷ numbers_from test (suc k) tasks else numbers_from test (suc k) tasks) ++ (if test task then (k + suc (length tasks)) ∷ [] else [])
    by_first true rest = ap (λ l. k ∷ l) rest
    by_first false rest = rest

none_behind : (numbers : List ℕ) → numbers ++ [] ≡ numbers
none_behind [] = refl
none_behind (n ∷ numbers) = ap (λ l. n ∷ l) (none_behind numbers)

-- one that doesn't pass the test
stays_behind : (test : Task → Bool) (tasks : List Task) (task : Task) → test task ≡ false → numbers_from test 0 tasks ≡ numbers_from test 0 (tasks ++ task ∷ [])
stays_behind test tasks task is =
    sym (none_behind (numbers_from test 0 tasks)) ∙ sym (ap (λ (b : Bool). numbers_from test 0 tasks ++ (if b then (0 + length tasks) ∷ [] else [])) is) ∙ sym (one_more test 0 tasks task)

comes_behind : (test : Task → Bool) (tasks : List Task) (task : Task) → test task ≡ true → numbers_from test 0 tasks ++ length tasks ∷ [] ≡ numbers_from test 0 (tasks ++ task ∷ [])
comes_behind test tasks task is =
    ap (λ (n : ℕ). numbers_from test 0 tasks ++ n ∷ []) (omega arith)
    ∙ sym (ap (λ (b : Bool). numbers_from test 0 tasks ++ (if b then (0 + length tasks) ∷ [] else [])) is)
    ∙ sym (one_more test 0 tasks task)

greater : (k n : ℕ) → nat_cmp (k + suc n) k ≡ Greater
greater k n = by_tests (not_less k n) (not_equal k n)
  where
    not_less : (k n : ℕ) → nat_lt (k + suc n) k ≡ false
    not_less k n = grind (arith, nat_tests)

    not_equal : (k n : ℕ) → ((k + suc n) == k) ≡ false
    not_equal k n = grind (arith, nat_tests)

    by_tests : nat_lt (k + suc n) k ≡ false → ((k + suc n) == k) ≡ false → nat_cmp (k + suc n) k ≡ Greater
    by_tests less equal = ap (λ (b : Bool). if b then Less else (if (k + suc n) == k then Equal else Greater)) less ∙ ap (λ (b : Bool). if b then Equal else Greater) equal

-- the number of a new task is the greatest
put_last : (test : Task → Bool) (k : ℕ) (tasks : List Task) → insert_key nat_cmp (numbers_from test k tasks) (k + length tasks) ≡ numbers_from test k tasks ++ (k + length tasks) ∷ []
put_last test k [] = refl
put_last test k (task ∷ tasks) =
    by_test (test task)
    (subst (λ (n : ℕ). insert_key nat_cmp (numbers_from test (suc k) tasks) n ≡ numbers_from test (suc k) tasks ++ n ∷ []) (one_later k (length tasks)) (put_last test (suc k) tasks))
  where
    one_later : (k n : ℕ) → suc k + n ≡ k + suc n
    one_later k n = omega arith

    by_test : (b : Bool) → insert_key nat_cmp (numbers_from test (suc k) tasks) (k + suc (length tasks)) ≡ numbers_from test (suc k) tasks ++ (k + suc (length tasks)) ∷ []
        → insert_key nat_cmp (if b then k ∷ numbers_from test (suc k) tasks else numbers_from test (suc k) tasks) (k + suc (length tasks))
        ≡ (if b then k ∷ numbers_from test (suc k) tasks else numbers_from test (suc k) tasks) ++ (k + suc (length tasks)) ∷ []
    by_test true rest =
        ap (λ (o : Ordering). match_ordering o ((k + suc (length tasks)) ∷ k ∷ numbers_from test (suc k) tasks) (k ∷ numbers_from test (suc k) tasks) (k ∷ insert_key nat_cmp (numbers_from test (suc k) tasks) (k + suc (length tasks)))) (greater k (length tasks))
        ∙ ap (λ l. k ∷ l) rest
    by_test false rest = rest

abbrev fresh : Kind → Task
fresh kind = record { kind = kind; arrival = None }

pub call_comes : (old new : OpenTasks) (kind : Kind) (number : ℕ) → is_call kind ≡ true → ((name : List ℕ) → listens_for name kind ≡ false)
    → new.calls.keys ≡ insert_key nat_cmp old.calls.keys number → numbers_in new.listeners ≡ numbers_in old.listeners
    → (tasks : List Task) → AreThose old tasks → number ≡ length tasks → AreThose new (tasks ++ fresh kind ∷ [])
call_comes old new kind number call deaf keys same tasks are is =
    record {
      calls =
          keys ∙ ap (λ (l : List ℕ). insert_key nat_cmp l number) are.calls
          ∙ ap (insert_key nat_cmp (numbers_from is_open_call 0 tasks)) (let last : number ≡ 0 + length tasks = omega (arith, is) in last)
          ∙ put_last is_open_call 0 tasks
          ∙ ap (λ (n : ℕ). numbers_from is_open_call 0 tasks ++ n ∷ []) (omega arith)
          ∙ comes_behind is_open_call tasks (fresh kind) (and-true (is_call kind) ∙ call);
      listeners = λ name. ap (λ (f : List ℕ → List ℕ). f name) same ∙ are.listeners name ∙ stays_behind (is_listener name) tasks (fresh kind) (and-true (listens_for name kind) ∙ deaf name);
    }

pub other_comes : (old new : OpenTasks) (kind : Kind) → is_call kind ≡ false → ((name : List ℕ) → listens_for name kind ≡ false) → new.calls.keys ≡ old.calls.keys → numbers_in new.listeners ≡ numbers_in old.listeners
    → (tasks : List Task) → AreThose old tasks → AreThose new (tasks ++ fresh kind ∷ [])
other_comes old new kind call deaf keys same tasks are =
    record {
      calls = keys ∙ are.calls ∙ stays_behind is_open_call tasks (fresh kind) (and-true (is_call kind) ∙ call);
      listeners = λ name. ap (λ (f : List ℕ → List ℕ). f name) same ∙ are.listeners name ∙ stays_behind (is_listener name) tasks (fresh kind) (and-true (listens_for name kind) ∙ deaf name);
    }

listener_behind : (name other : List ℕ) (f : List ℕ → List ℕ) (number : ℕ) (tasks : List Task) (b : Bool) → bytes_eq name other ≡ b → ((name : List ℕ) → f name ≡ numbers_from (is_listener name) 0 tasks) → number ≡ length tasks
    → (if b then f name ++ number ∷ [] else f other) ≡ numbers_from (is_listener other) 0 (tasks ++ fresh (of_event name) ∷ [])
listener_behind name other f number tasks true same are is =
    ap (λ (l : List ℕ). f l ++ number ∷ []) ((bytes_eq-Decides name other).0 same)
    ∙ ap (λ (l : List ℕ). l ++ number ∷ []) (are other)
    ∙ ap (λ (n : ℕ). numbers_from (is_listener other) 0 tasks ++ n ∷ []) is
    ∙ comes_behind (is_listener other) tasks (fresh (of_event name)) (and-true (bytes_eq other name) ∙ bytes_turned other name ∙ same)
listener_behind name other f number tasks false same are is =
    are other ∙ stays_behind (is_listener other) tasks (fresh (of_event name)) (and-true (bytes_eq other name) ∙ bytes_turned other name ∙ same)

pub listener_comes : (old new : OpenTasks) (name : List ℕ) (number : ℕ) → new.calls.keys ≡ old.calls.keys → numbers_in new.listeners ≡ at_name (numbers_in old.listeners) name (numbers_in old.listeners name ++ number ∷ [])
    → (tasks : List Task) → AreThose old tasks → number ≡ length tasks → AreThose new (tasks ++ fresh (of_event name) ∷ [])
listener_comes old new name number keys changed tasks are is =
    record {
      calls = keys ∙ are.calls ∙ stays_behind is_open_call tasks (fresh (of_event name)) refl;
      listeners = λ other. ap (λ (f : List ℕ → List ℕ). f other) changed ∙ listener_behind name other (numbers_in old.listeners) number tasks (bytes_eq name other) refl are.listeners is;
    }

pub none_comes : (old new : OpenTasks) → new.calls.keys ≡ old.calls.keys → numbers_in new.listeners ≡ numbers_in old.listeners → (tasks : List Task) → AreThose old tasks → AreThose new tasks
none_comes old new keys same tasks are =
    record {
      calls = keys ∙ are.calls;
      listeners = λ name. ap (λ (f : List ℕ → List ℕ). f name) same ∙ are.listeners name;
    }

-- ---- a result arrives

-- no task with a result passes
abbrev Closed : (Task → Bool) → Type 0
Closed test = (task : Task) (arrival : Arrival) → test (record task { arrival = Some arrival }) ≡ false

differs : (a b : ℕ) → a < b → (a == b) ≡ false
differs a b less = grind (arith, nat_tests)

is_behind : (a b : ℕ) → a < b → (b == a) ≡ false
is_behind a b less = grind (arith, nat_tests)

is_same : (a b : ℕ) → a ≡ b → (b == a) ≡ true
is_same a b same = grind (arith, nat_tests)

no_smaller : (test : Task → Bool) (k j : ℕ) (tasks : List Task) → k < j → without k (numbers_from test j tasks) ≡ numbers_from test j tasks
no_smaller test k j [] less = refl
no_smaller test k j (task ∷ tasks) less = by_test (test task) (no_smaller test k (suc j) tasks (omega arith))
  where
    by_test : (b : Bool) → without k (numbers_from test (suc j) tasks) ≡ numbers_from test (suc j) tasks
        → without k (if b then j ∷ numbers_from test (suc j) tasks else numbers_from test (suc j) tasks) ≡ (if b then j ∷ numbers_from test (suc j) tasks else numbers_from test (suc j) tasks)
    by_test true rest =
        ap (λ (b : Bool). if b then numbers_from test (suc j) tasks else j ∷ without k (numbers_from test (suc j) tasks)) (differs k j less)
        ∙ ap (λ l. j ∷ l) rest
    by_test false rest = rest

left_from : (test : Task → Bool) → Closed test → (k n : ℕ) (tasks : List Task) (arrival : Arrival) → without (k + n) (numbers_from test k tasks) ≡ numbers_from test k (with_arrival tasks n arrival)
left_from test closed k n [] arrival = refl
left_from test closed k zero (task ∷ tasks) arrival =
    by_test (test task)
    ∙ sym (ap (λ (b : Bool). if b then k ∷ numbers_from test (suc k) tasks else numbers_from test (suc k) tasks) (closed task arrival))
  where
    by_test : (b : Bool) → without (k + 0) (if b then k ∷ numbers_from test (suc k) tasks else numbers_from test (suc k) tasks) ≡ numbers_from test (suc k) tasks
    by_test true = ap (λ (b : Bool). if b then numbers_from test (suc k) tasks else k ∷ without (k + 0) (numbers_from test (suc k) tasks)) (is_same k (k + 0) (omega arith))
    by_test false = no_smaller test (k + 0) (suc k) tasks (omega arith)
left_from test closed k (suc n) (task ∷ tasks) arrival =
    by_test (test task) (ap (λ (m : ℕ). without m (numbers_from test (suc k) tasks)) (omega arith) ∙ left_from test closed (suc k) n tasks arrival)
  where
    by_test : (b : Bool) → without (k + suc n) (numbers_from test (suc k) tasks) ≡ numbers_from test (suc k) (with_arrival tasks n arrival)
        → without (k + suc n) (if b then k ∷ numbers_from test (suc k) tasks else numbers_from test (suc k) tasks)
        ≡ (if b then k ∷ numbers_from test (suc k) (with_arrival tasks n arrival) else numbers_from test (suc k) (with_arrival tasks n arrival))
    by_test true rest =
        ap (λ (b : Bool). if b then numbers_from test (suc k) tasks else k ∷ without (k + suc n) (numbers_from test (suc k) tasks)) (is_behind k (k + suc n) (omega arith))
        ∙ ap (λ l. k ∷ l) rest
    by_test false rest = rest

left : (test : Task → Bool) → Closed test → (tasks : List Task) (n : ℕ) (arrival : Arrival) → without n (numbers_from test 0 tasks) ≡ numbers_from test 0 (with_arrival tasks n arrival)
left test closed tasks n arrival = ap (λ (m : ℕ). without m (numbers_from test 0 tasks)) (omega arith) ∙ left_from test closed 0 n tasks arrival

stays : (test : Task → Bool) → Closed test → (k n : ℕ) (tasks : List Task) (task : Task) (arrival : Arrival) → task_at tasks n ≡ Some task → test task ≡ false → numbers_from test k tasks ≡ numbers_from test k (with_arrival tasks n arrival)
stays test closed k n [] task arrival there is = refl
stays test closed k zero (first ∷ tasks) task arrival there is =
    let same : first ≡ task = cc there in
    ap (λ (b : Bool). if b then k ∷ numbers_from test (suc k) tasks else numbers_from test (suc k) tasks) (ap test same ∙ is ∙ sym (closed first arrival))
stays test closed k (suc n) (first ∷ tasks) task arrival there is =
    ap (λ l. if test first then k ∷ l else l) (stays test closed (suc k) n tasks task arrival there is)

call_closed : Closed is_open_call
call_closed task arrival = and-false (is_call task.kind)

listener_closed : (name : List ℕ) → Closed (is_listener name)
listener_closed name task arrival = and-false (listens_for name task.kind)

removed : (n : ℕ) (numbers : List ℕ) → remove_key (is_at (nat_cmp n)) numbers ≡ without n numbers
removed n [] = refl
removed n (m ∷ numbers) =
    ap (λ (b : Bool). cond b numbers (m ∷ remove_key (is_at (nat_cmp n)) numbers)) (sym (unsigned_ties n m)) ∙ ap (λ l. cond (n == m) numbers (m ∷ l)) (removed n numbers)

pub call_settles : (old new : OpenTasks) (kind : Kind) (number : ℕ) → ((name : List ℕ) → listens_for name kind ≡ false)
    → new.calls.keys ≡ remove_key (is_at (nat_cmp number)) old.calls.keys → numbers_in new.listeners ≡ numbers_in old.listeners
    → (tasks : List Task) (arrival : Arrival) → AreThose old tasks → task_at tasks number ≡ Some (fresh kind) → AreThose new (with_arrival tasks number arrival)
call_settles old new kind number deaf keys same tasks arrival are there =
    record {
      calls = keys ∙ removed number old.calls.keys ∙ ap (without number) are.calls ∙ left is_open_call call_closed tasks number arrival;
      listeners = λ name. ap (λ (f : List ℕ → List ℕ). f name) same ∙ are.listeners name
          ∙ stays (is_listener name) (listener_closed name) 0 number tasks (fresh kind) arrival there (and-true (listens_for name kind) ∙ deaf name);
    }

pub other_settles : (old new : OpenTasks) (kind : Kind) (number : ℕ) → is_call kind ≡ false → ((name : List ℕ) → listens_for name kind ≡ false) → new.calls.keys ≡ old.calls.keys → numbers_in new.listeners ≡ numbers_in old.listeners
    → (tasks : List Task) (arrival : Arrival) → AreThose old tasks → task_at tasks number ≡ Some (fresh kind) → AreThose new (with_arrival tasks number arrival)
other_settles old new kind number call deaf keys same tasks arrival are there =
    record {
      calls = keys ∙ are.calls ∙ stays is_open_call call_closed 0 number tasks (fresh kind) arrival there (and-true (is_call kind) ∙ call);
      listeners = λ name. ap (λ (f : List ℕ → List ℕ). f name) same ∙ are.listeners name
          ∙ stays (is_listener name) (listener_closed name) 0 number tasks (fresh kind) arrival there (and-true (listens_for name kind) ∙ deaf name);
    }

listener_left : (name other : List ℕ) (f : List ℕ → List ℕ) (number : ℕ) (tasks : List Task) (arrival : Arrival) (b : Bool) → bytes_eq name other ≡ b → ((name : List ℕ) → f name ≡ numbers_from (is_listener name) 0 tasks)
    → task_at tasks number ≡ Some (fresh (of_event name)) → (if b then without number (f name) else f other) ≡ numbers_from (is_listener other) 0 (with_arrival tasks number arrival)
listener_left name other f number tasks arrival true same are there =
    ap (λ (l : List ℕ). without number (f l)) ((bytes_eq-Decides name other).0 same) ∙ ap (without number) (are other) ∙ left (is_listener other) (listener_closed other) tasks number arrival
listener_left name other f number tasks arrival false same are there =
    are other ∙ stays (is_listener other) (listener_closed other) 0 number tasks (fresh (of_event name)) arrival there (and-true (bytes_eq other name) ∙ bytes_turned other name ∙ same)

pub listener_settles : (old new : OpenTasks) (name : List ℕ) (number : ℕ) → new.calls.keys ≡ old.calls.keys → numbers_in new.listeners ≡ at_name (numbers_in old.listeners) name (without number (numbers_in old.listeners name))
    → (tasks : List Task) (arrival : Arrival) → AreThose old tasks → task_at tasks number ≡ Some (fresh (of_event name)) → AreThose new (with_arrival tasks number arrival)
listener_settles old new name number keys changed tasks arrival are there =
    record {
      calls = keys ∙ are.calls ∙ stays is_open_call call_closed 0 number tasks (fresh (of_event name)) arrival there refl;
      listeners = λ other. ap (λ (f : List ℕ → List ℕ). f other) changed ∙ listener_left name other (numbers_in old.listeners) number tasks arrival (bytes_eq name other) refl are.listeners there;
    }

-- whether a list has a first one
pub some_first : {X Y : Type 0} (o : Option X) (list : List Y) → (IsSome o ↔ (0 < length list)) → is_some o ≡ is_some (slice_get list 0)
some_first (Some x) (y ∷ list) both = refl
some_first None [] both = refl
some_first (Some x) [] both = absurd (omega (arith, both.0 refl))
some_first None (y ∷ list) both = absurd (cc (both.1 (omega arith)))

-- ---- what a kind is

abbrev pub IsCall : Kind → Type 0
IsCall kind = (is_call kind ≡ true) × ((name : List ℕ) → listens_for name kind ≡ false)

abbrev pub IsOther : Kind → Type 0
IsOther kind = (is_call kind ≡ false) × ((name : List ℕ) → listens_for name kind ≡ false)

pub call_kind : (kind : Kinds) → (kind ≡ kinds.Flow) ⊎ ((spot : _) × (kind ≡ kinds.Entity spot)) → IsCall (kind_of kind)
call_kind kind (inl is) = subst (λ (k : Kinds). IsCall (kind_of k)) (sym is) (refl, λ name. refl)
call_kind kind (inr (spot, is)) = subst (λ (k : Kinds). IsCall (kind_of k)) (sym is) (refl, λ name. refl)

pub other_kind : (kind : Kinds) → ((name : _) × (argument : _) × (kind ≡ kinds.Activity name argument)) ⊎ (((due : ℕ) × (kind ≡ kinds.Timer due)) ⊎ ((set : _) × (kind ≡ kinds.Grant set))) → IsOther (kind_of kind)
other_kind kind (inl (name, argument, is)) = subst (λ (k : Kinds). IsOther (kind_of k)) (sym is) (refl, λ name. refl)
other_kind kind (inr (inl (due, is))) = subst (λ (k : Kinds). IsOther (kind_of k)) (sym is) (refl, λ name. refl)
other_kind kind (inr (inr (set, is))) = subst (λ (k : Kinds). IsOther (kind_of k)) (sym is) (refl, λ name. refl)
