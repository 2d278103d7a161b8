-- What is seen through two views is seen through both; and what is there keeps a partition from being quiet.
use Rattle.std.proofs.Common.{◌≡◌, ◌∙◌, ℕ, Bool, true, false, Option, Some, None, IsSome, refl, ap, sym}
use Rattle.std.specs.Prelude.{option_map, is_some}
use Rattle.dura_value.specs.Ids.{Id}
use Rattle.shared_maps.specs.Order.{IsFirst, IsNextBehind, NoneBehind}
use Rattle.part_rows.specs.Timers.{IsNext, NoTimer}
use Rattle.dura_model.specs.Partition.{Partition}
use Rattle.part_rows.specs.Open.{IsOpen, NoneOpen}
use Rattle.part_steps.specs.Quiet.{NoActivity, IsQuiet}

pub seen_through : {X Y Z : Type 0} (f : X → Y) (g : Y → Z) (x : Option X) (y : Option Y) → option_map f x ≡ y → option_map (λ v. g (f v)) x ≡ option_map g y
seen_through {X} {Y} f g None y is = ap (option_map g) is
seen_through {X} {Y} f g (Some x) y is = ap (option_map g) is

pub seen_there : {X Y : Type 0} (g : X → Y) (x : Option X) → IsSome x → IsSome (option_map g x)
seen_there g None there = there
seen_there g (Some x) there = there

pub test_seen : {X Y : Type 0} (g : X → Y) (x : Option X) → is_some (option_map g x) ≡ is_some x
test_seen g None = refl
test_seen g (Some x) = refl

pub seen_first : {X Y : Type 0} (g : X → Y) (f : Id → ℕ → Option X) (id : Id) (number : ℕ) → IsFirst (λ i n. is_some (f i n)) id number → IsFirst (λ i n. is_some (option_map g (f i n))) id number
seen_first g f id number is = record {
  found = test_seen g (f id number) ∙ is.found;
  first = λ other n there. is.first other n (sym (test_seen g (f other n)) ∙ there);
  least = λ n there. is.least n (sym (test_seen g (f id n)) ∙ there);
}

pub seen_nowhere : {X Y : Type 0} (g : X → Y) (f : Id → ℕ → Option X) → ((id : Id) (n : ℕ) → f id n ≡ None) → (id : Id) (n : ℕ) → option_map g (f id n) ≡ None
seen_nowhere g f none id n = ap (option_map g) (none id n)

pub seen_next : {X Y : Type 0} (g : X → Y) (f : Id → ℕ → Option X) (last : Option (Id × ℕ)) (task : Id × ℕ) → IsNextBehind (λ i n. is_some (f i n)) last task
    → IsNextBehind (λ i n. is_some (option_map g (f i n))) last task
seen_next g f last task is = record {
  found = test_seen g (f task.0 task.1) ∙ is.found;
  behind = is.behind;
  first = λ other there. is.first other (sym (test_seen g (f other.0 other.1)) ∙ there);
}

pub seen_none_behind : {X Y : Type 0} (g : X → Y) (f : Id → ℕ → Option X) (last : Option (Id × ℕ)) → NoneBehind (λ i n. is_some (f i n)) last → NoneBehind (λ i n. is_some (option_map g (f i n))) last
seen_none_behind g f last none task there = none task (sym (test_seen g (f task.0 task.1)) ∙ there)

-- what is there through a view is there
pub tests_seen : {X Y : Type 0} (g : X → Y) (f : Id → Option X) (has : Id → Bool) → has ≡ (λ id. is_some (f id)) → has ≡ (λ id. is_some (option_map g (f id)))
tests_seen g f has is = is ∙ (λ i id. sym (test_seen g (f id)) i)

pub is_open_somewhere : (p : Partition) (from to : Id) → IsOpen p from to → IsQuiet p → ⊥
is_open_somewhere p from to is quiet = let wrong : true ≡ false = sym is.taken ∙ quiet.deliveries from to is.body is.first in cc wrong

pub is_pending_somewhere : (p : Partition) (id : Id) (task : ℕ) → IsSome (p.activities id task) → IsQuiet p → ⊥
is_pending_somewhere p id task is quiet = let wrong : true ≡ false = sym is ∙ ap (λ (x : Option _). is_some x) (quiet.activities id task) in cc wrong

pub is_due_somewhere : (p : Partition) (due : ℕ) → IsNext p.timers due → IsQuiet p → ⊥
is_due_somewhere p due is quiet = let wrong : None ≡ Some due = sym (quiet.timers is.there.0 is.there.1) ∙ is.there.2 in cc wrong

pub nothing_anywhere : (p : Partition) → NoneOpen p → NoActivity p → NoTimer p.timers → IsQuiet p
nothing_anywhere p closed pending due = record { deliveries = closed; activities = pending; timers = due }
