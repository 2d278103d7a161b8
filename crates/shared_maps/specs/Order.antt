-- The order of ids, and of ids with numbers.
use Rattle.std.specs.Prelude.{◌≡◌, ◌≤◌, ℕ, Bool, true, Option, Some, None}
use Rattle.std.specs.declared.cmp.Ordering.{Ordering}
use Rattle.std.specs.Ordering.{is_lt, is_le, nat_cmp, ordering_then}
use Rattle.dura_value.specs.Ids.{Id}
use Rattle.shared_trees.specs.Ids.{id_cmp, key_of}

-- whether an id comes before another or is it
abbrev pub is_no_later : Id → Id → Bool
is_no_later a b = is_le (id_cmp (key_of a) (key_of b))

-- Something is there for this id and number: for the first id that has any, and of its numbers the least.
pub record IsFirst (there : Id → ℕ → Bool) (id : Id) (number : ℕ) : Type 0 where
  pub found : there id number ≡ true
  pub first : (other : Id) (n : ℕ) → there other n ≡ true → is_no_later id other ≡ true
  pub least : (n : ℕ) → there id n ≡ true → number ≤ n

-- by ids, then by numbers
abbrev pub task_cmp : Id × ℕ → Id × ℕ → Ordering
task_cmp a b = ordering_then (id_cmp (key_of a.0) (key_of b.0)) (nat_cmp a.1 b.1)

-- whether an id and number come behind the last ones, if there were any
abbrev pub is_behind : Option (Id × ℕ) → Id × ℕ → Bool
is_behind None task = true
is_behind (Some last) task = is_lt (task_cmp last task)

-- Something is there for this id and number, the first such behind the last ones.
pub record IsNextBehind (there : Id → ℕ → Bool) (last : Option (Id × ℕ)) (task : Id × ℕ) : Type 0 where
  pub found : there task.0 task.1 ≡ true
  pub behind : is_behind last task ≡ true
  pub first : (other : Id × ℕ) → there other.0 other.1 ≡ true → is_behind last other ≡ true → is_le (task_cmp task other) ≡ true

-- nothing is there behind the last ones
abbrev pub NoneBehind : (there : Id → ℕ → Bool) → Option (Id × ℕ) → Type 0
NoneBehind there last = (task : Id × ℕ) → there task.0 task.1 ≡ true → is_behind last task ≡ true → ⊥

-- by stamps, then by ids, then by numbers
abbrev pub time_cmp : ℕ × Id × ℕ → ℕ × Id × ℕ → Ordering
time_cmp a b = ordering_then (nat_cmp a.0 b.0) (task_cmp (a.1, a.2) (b.1, b.2))

-- Something is there for this stamp, id and number, the first such of all.
pub record IsFirstTime (there : ℕ → Id → ℕ → Bool) (time : ℕ) (id : Id) (number : ℕ) : Type 0 where
  pub found : there time id number ≡ true
  pub first : (other_time : ℕ) (other : Id) (other_number : ℕ) → there other_time other other_number ≡ true → is_le (time_cmp (time, id, number) (other_time, other, other_number)) ≡ true

-- whether a stamp, id and number come behind the last ones, if there were any
abbrev pub is_behind_time : Option (ℕ × Id × ℕ) → ℕ × Id × ℕ → Bool
is_behind_time None at = true
is_behind_time (Some last) at = is_lt (time_cmp last at)

-- Something is there for this stamp, id and number, the first such behind the last ones.
pub record IsNextTime (there : ℕ → Id → ℕ → Bool) (last : Option (ℕ × Id × ℕ)) (at : ℕ × Id × ℕ) : Type 0 where
  pub found : there at.0 at.1 at.2 ≡ true
  pub behind : is_behind_time last at ≡ true
  pub first : (other : ℕ × Id × ℕ) → there other.0 other.1 other.2 ≡ true → is_behind_time last other ≡ true → is_le (time_cmp at other) ≡ true

-- nothing is there for a stamp, an id and a number behind the last ones
abbrev pub NoTimeBehind : (there : ℕ → Id → ℕ → Bool) → Option (ℕ × Id × ℕ) → Type 0
NoTimeBehind there last = (at : ℕ × Id × ℕ) → there at.0 at.1 at.2 ≡ true → is_behind_time last at ≡ true → ⊥
