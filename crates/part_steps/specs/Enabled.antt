-- What a partition can do by itself.
use Rattle.std.specs.Prelude.{◌≡◌, ◌==◌, ℕ, option_map, Bool, true, false, Some, None, List, [], ◌∷◌, ◌++◌}
use Rattle.dura_value.specs.Ids.{Id}
use Rattle.dura_value.specs.Items.{Item, ran, fired}
use Rattle.dura_value.specs.Messages.{Message}
use Rattle.flow_syntax.specs.Syntax.{Flows}
use Rattle.dura_model.specs.Partition.{Partition, raised_to, accepted}
use Rattle.part_rows.specs.Open.{oldest_open}
use Rattle.part_rows.specs.Timers.{IsFirstDue}
use Rattle.part_steps.specs.Outputs.{Outputs, outputs_by}

-- the stamp of what is done now, which isn't before any so far
abbrev pub stamp_at : Partition → ℕ → ℕ
stamp_at p now = (raised_to now p).stamp

-- whether an item is a delivery or a timer at this stamp
abbrev pub is_at : Item → ℕ → Bool
is_at (ran from to stamp) now = stamp == now
is_at (fired id task stamp) now = stamp == now
is_at other now = false

-- It is a delivery or a timer at this stamp, and it is accepted.
pub record IsEnabled (flows : Flows) (count : ℕ) (p : Partition) (stamp : ℕ) (item : Item) : Type 0 where
  pub at : is_at item stamp ≡ true
  pub next : Partition
  pub taken : accepted flows count p item ≡ Some next

-- the sender and the receiver of a message
abbrev pub link_of : Message → Id × Id
link_of message = (message.from, message.to)

-- whether an item comes next: the delivery of the message that has waited longest of those that their receivers take, where
-- none is taken the timer that is due first
abbrev pub ComesNext : Partition → ℕ → Item → Type 0
ComesNext p now (ran from to stamp) = option_map link_of (oldest_open p) ≡ Some (from, to)
ComesNext p now (fired id task stamp) = (oldest_open p ≡ None) × ((due : ℕ) × IsFirstDue p.timers now due id task)
ComesNext p now other = ⊥

-- whether an item fires, at this stamp, the timer that is due first by it
abbrev pub FiresFirst : Partition → (stamp : ℕ) → Item → Type 0
FiresFirst p stamp (fired id task at) = (at ≡ stamp) × ((due : ℕ) × IsFirstDue p.timers stamp due id task)
FiresFirst p stamp other = ⊥

-- No delivery and no timer is accepted at this stamp.
pub record NoneEnabled (flows : Flows) (count : ℕ) (p : Partition) (stamp : ℕ) : Type 0 where
  pub deliveries : (from to : Id) → accepted flows count p (ran from to stamp) ≡ None
  pub timers : (id : Id) (task : ℕ) → accepted flows count p (fired id task stamp) ≡ None

-- These items are enabled one after another, each at the stamp of the state that it meets, and make this partition and these
-- outputs.
pub data Makes (flows : Flows) (count now : ℕ) (first : Partition) : List Item → List Outputs → Partition → Type 0 where
  nothing : Makes flows count now first [] [] first
  one_more : {items : List Item} {made : List Outputs} {p q : Partition} → Makes flows count now first items made p → (item : Item) → is_at item (stamp_at p now) ≡ true → accepted flows count p item ≡ Some q
      → Makes flows count now first (items ++ item ∷ []) (made ++ outputs_by flows p item ∷ []) q
