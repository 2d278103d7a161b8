-- What an entry is filled with.
use Rattle.std.specs.Prelude.{◌≡◌, ◌⊎◌, ◌<◌, ℕ, true, List, [], ◌∷◌, ◌++◌, Option, Some, None}
use Rattle.cell_waits.specs.Waits.{Waiting, MayWait}
use Rattle.dura_model.specs.Partition.{Partition, accepted}
use Rattle.dura_model.specs.World.{Activity}
use Rattle.dura_value.specs.Items.{Item, took, got, ran, ended, fired, trim}
use Rattle.flow_syntax.specs.Syntax.{Flows}
use Rattle.log_items.specs.Plain.{item_of, items_of}
use Rattle.log_items.specs.declared.items.Item.{Item as OwnItem}
use Rattle.part_steps.specs.Enabled.{stamp_at, is_at, FiresFirst}
use Rattle.part_steps.specs.States.{state_of, count_of, IsSound}
use Rattle.cell_steps.specs.declared.filling.Filling.{Filling}

-- the activity of an outcome is the one that is pending
abbrev pub IsPending : Partition → Activity → Item → Type 0
IsPending p activity (ended id task outcome) = p.activities id task ≡ Some activity
IsPending p activity (took message) = ⊥
IsPending p activity (got source number message) = ⊥
IsPending p activity (ran from to stamp) = ⊥
IsPending p activity (fired id task stamp) = ⊥
IsPending p activity (trim reader number) = ⊥

abbrev pub is_for : Partition → Option Activity → Item → Type 0
is_for p None item = Unit {0}
is_for p (Some activity) item = IsPending p activity item

-- of an outcome its activity is pending
abbrev pub IsFor : Partition → Waiting → Type 0
IsFor p w = is_for p w.activity w.item

-- what waits isn't possible: its activity isn't pending, or it isn't accepted
abbrev pub CantCome : Flows → (count : ℕ) → Partition → Waiting → Type 0
CantCome flows count p w = IsFor p w → accepted flows count p w.item ≡ None

-- An entry is filled: of what waits one after another is put behind the items, where it is possible in the state that it meets, or let
-- go of, where it isn't; and between them come deliveries and timers that are possible, each at the stamp of what is done now.
pub data Filled (flows : Flows) (count now : ℕ) (from : Partition) : (looked : List Waiting) → (items : List Item) → Partition → Type 0 where
  nothing : Filled flows count now from [] [] from
  puts : {looked : List Waiting} {items : List Item} {p q : Partition} → Filled flows count now from looked items p → (w : Waiting) → MayWait w → IsFor p w → accepted flows count p w.item ≡ Some q
      → Filled flows count now from (looked ++ w ∷ []) (items ++ w.item ∷ []) q
  lets_go : {looked : List Waiting} {items : List Item} {p : Partition} → Filled flows count now from looked items p → (w : Waiting) → CantCome flows count p w → Filled flows count now from (looked ++ w ∷ []) items p
  goes_on : {looked : List Waiting} {items : List Item} {p q : Partition} → Filled flows count now from looked items p → (item : Item) → is_at item (stamp_at p now) ≡ true → accepted flows count p item ≡ Some q
      → Filled flows count now from looked (items ++ item ∷ []) q

-- its state is sound, in an entry that has begun
pub record IsUnderWay (filling : Filling) : Type 0 where
  pub sound : IsSound filling.state
  pub begun : 0 < (state_of filling.state).position

-- An entry is filled on with these items, of what waits these being looked at.
pub record FillsOn (flows : Flows) (now : ℕ) (old new : Filling) (looked : List Waiting) (more : List Item) : Type 0 where
  pub way : IsUnderWay new
  pub count : count_of new.state ≡ count_of old.state
  pub items : items_of new.items.items ≡ items_of old.items.items ++ more
  pub filled : Filled flows (count_of old.state) now (state_of old.state) looked more (state_of new.state)

-- an item is put behind the others where it is accepted; else nothing changes
abbrev pub Puts : Flows → (old : Filling) → OwnItem → (new : Filling) → Type 0
Puts flows old item new = IsUnderWay new × (count_of new.state ≡ count_of old.state)
    × (((accepted flows (count_of old.state) (state_of old.state) (item_of item) ≡ Some (state_of new.state)) × (items_of new.items.items ≡ items_of old.items.items ++ item_of item ∷ []))
    ⊎ ((accepted flows (count_of old.state) (state_of old.state) (item_of item) ≡ None) × (state_of new.state ≡ state_of old.state) × (new.items ≡ old.items)))

-- the timer that is due first is put behind the items
pub record PutsFirstDue (p : Partition) (stamp : ℕ) (old new : Filling) : Type 0 where
  pub item : Item
  pub first : FiresFirst p stamp item
  pub items : items_of new.items.items ≡ items_of old.items.items ++ item ∷ []

-- of what waits the first ones were looked at, and these are left
pub record LooksOn (flows : Flows) (now : ℕ) (old new : Filling) (before rest : List Waiting) : Type 0 where
  pub looked : List Waiting
  pub more : List Item
  pub left : before ≡ looked ++ rest
  pub on : FillsOn flows now old new looked more
