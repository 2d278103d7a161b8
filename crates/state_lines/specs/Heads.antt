-- How far the states of partitions were listed: of each the first id behind the last one that was said.
use Rattle.std.specs.Prelude.{◌≡◌, ℕ, ◌<◌, Bool, true, List, [], length, map, Option, Some, None, option_map, slice_index_or}
use Rattle.std.specs.Borrow.{Bor}
use Rattle.dura_value.specs.declared.addresses.Id.{Id as Given}
use Rattle.dura_value.specs.Ids.{Id}
use Rattle.dura_value.specs.Views.{id_of}
use Rattle.shared_maps.specs.Entries.{Entries}
use Rattle.shared_maps.specs.Maps.{has_id}
use Rattle.shared_maps.specs.IdOrder.{is_no_later, IsNextBehind, NoneBehind}

-- the first id behind the last one, if there is any
abbrev pub IsHead : (there : Id → Bool) → Option Id → Option Id → Type 0
IsHead there last None = NoneBehind there last
IsHead there last (Some id) = IsNextBehind there last id

-- the head of each place behind the last id
abbrev pub AreHeads : (there : ℕ → Id → Bool) → Option Id → List (Option Id) → Type 0
AreHeads there last heads = (place : ℕ) → place < length heads → IsHead (there place) last (slice_index_or heads place None)

-- each list has the ids that are there at its place
abbrev pub AreListed : (there : ℕ → Id → Bool) → List (Entries (Unit {0})) → Type 0
AreListed there lists = (place : ℕ) → place < length lists → has_id (slice_index_or lists place []) ≡ there place

-- A head that no other is before: its place and its id.
pub record IsLeast (heads : List (Option Id)) (least : ℕ × Id) : Type 0 where
  pub inside : least.0 < length heads
  pub at : slice_index_or heads least.0 None ≡ Some least.1
  pub first : (other : ℕ) (head : Id) → slice_index_or heads other None ≡ Some head → is_no_later least.1 head ≡ true

-- the least head, if there is any
abbrev pub IsLeastOf : List (Option Id) → Option (ℕ × Id) → Type 0
IsLeastOf heads None = (place : ℕ) → slice_index_or heads place None ≡ None
IsLeastOf heads (Some least) = IsLeast heads least

-- ---- what references stand for

abbrev pub head_of : Option (Bor Given) → Option Id
head_of = option_map (λ id. id_of id.now)

abbrev pub heads_of : List (Option (Bor Given)) → List (Option Id)
heads_of = map head_of

abbrev pub least_of : Option (ℕ × Bor Given) → Option (ℕ × Id)
least_of = option_map (λ least. (least.0, id_of least.1.now))
