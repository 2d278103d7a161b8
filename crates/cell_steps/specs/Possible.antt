-- What is possible in a state, and which side of a turn is first.
use Rattle.std.specs.Prelude.{◌≡◌, ℕ, Bool, true, false, List, [], ◌∷◌}
use Rattle.std.specs.List.{All}
use Rattle.cell_waits.specs.Waits.{Waiting}
use Rattle.dura_model.specs.Partition.{Partition}
use Rattle.dura_value.specs.Items.{Item, took, got, ran, ended, fired, trim}
use Rattle.flow_syntax.specs.Syntax.{Flows}
use Rattle.part_rows.specs.Timers.{NoneDue}
use Rattle.part_steps.specs.Enabled.{NoneEnabled, FiresFirst, stamp_at}
use Rattle.cell_steps.specs.Fills.{CantCome}
use Rattle.cell_steps.specs.declared.round.Round.{Round}
use Rattle.cell_steps.specs.declared.round.Round.TheVariants as rounds

-- in every second turn what waits is first
abbrev pub waits_first : Round → Bool
waits_first rounds.Waits = true
waits_first rounds.Timers = false
waits_first rounds.WaitsAgain = true
waits_first rounds.Deliveries = false

-- in every fourth turn timers that are due are
abbrev pub timers_first : Round → Bool
timers_first rounds.Waits = false
timers_first rounds.Timers = true
timers_first rounds.WaitsAgain = false
timers_first rounds.Deliveries = false

abbrev pub next_round : Round → Round
next_round rounds.Waits = rounds.Timers
next_round rounds.Timers = rounds.WaitsAgain
next_round rounds.WaitsAgain = rounds.Deliveries
next_round rounds.Deliveries = rounds.Waits

-- Nothing is possible in a state: of what waits nothing is, and no delivery and no timer.
pub record NonePossible (flows : Flows) (count now : ℕ) (p : Partition) (waits : List Waiting) : Type 0 where
  pub waits_not : All (CantCome flows count p) waits
  pub none : NoneEnabled flows count p (stamp_at p now)

-- whether an item is what a partition does by itself: a delivery or a timer
abbrev pub is_own : Item → Bool
is_own (ran from to stamp) = true
is_own (fired id task stamp) = true
is_own (took message) = false
is_own (got source number message) = false
is_own (ended id task outcome) = false
is_own (trim reader number) = false

-- there is a first item, and it is such a one
abbrev pub Begins : (Item → Type 0) → List Item → Type 0
Begins P [] = ⊥
Begins P (item ∷ items) = P item

-- Where what waits isn't first in a turn, its first item is a delivery or a timer, if one is possible; and where timers are, it fires the one that is due
-- first, if one is due.
pub record OwnFirst (flows : Flows) (count now : ℕ) (round : Round) (begun : Partition) (items : List Item) : Type 0 where
  pub own : waits_first round ≡ false → (NoneEnabled flows count begun (stamp_at begun now) → ⊥) → Begins (λ item. is_own item ≡ true) items
  pub timer : timers_first round ≡ true → (NoneDue begun.timers (stamp_at begun now) → ⊥) → Begins (FiresFirst begun (stamp_at begun now)) items
