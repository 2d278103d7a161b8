-- What a turn makes of a cell.
use Rattle.std.specs.Prelude.{◌≡◌, ◌≢◌, ◌⊎◌, ℕ, ◌<◌, ◌≤◌, ◌^◌, true, List, [], ◌∷◌, ◌++◌, length}
use Rattle.cell_waits.specs.Waits.{Waiting}
use Rattle.dura_model.specs.Partition.{Partition, enter}
use Rattle.dura_value.specs.Items.{Entry}
use Rattle.flow_syntax.specs.Syntax.{Flows}
use Rattle.log_items.specs.declared.items.Packet.{Packet}
use Rattle.part_steps.specs.Enabled.{NoneEnabled, stamp_at}
use Rattle.cell_steps.specs.Fills.{Filled}
use Rattle.cell_steps.specs.Possible.{NonePossible, OwnFirst, waits_first, next_round}
use Rattle.cell_steps.specs.Sent.{SendsAtOnce}
use Rattle.spec_cell.specs.Views.{CellView, IsAhead}
use Rattle.spec_cell.specs.declared.cell.CellTurn.{CellTurn}
use Rattle.spec_cell.specs.declared.cell.CellTurn.TheVariants as turns
use Rattle.cell_steps.specs.declared.mode.Mode.{Mode}
use Rattle.cell_steps.specs.declared.mode.Mode.TheVariants as modes

-- in the mode without speculation an entry is settled before the next is made
abbrev pub IsHeld : Mode → List Entry → Type 0
IsHeld modes.None entries = entries ≢ []
IsHeld modes.Local entries = ⊥
IsHeld modes.Global entries = ⊥

-- The state ahead, in the entry that is next.
pub record IsBegun (flows : Flows) (count : ℕ) (begin : Partition) (c : CellView) (begun : Partition) : Type 0 where
  pub ahead : Partition
  pub is_ahead : IsAhead flows count begin c ahead
  pub entered : begun ≡ enter c.incarnation ahead

-- One entry more, of 1 to so many items, is filled in the state ahead, and of what it sends this goes out at once.
pub record MakesEntry (flows : Flows) (count : ℕ) (begin : Partition) (mode : Mode) (limit : ℕ) (old new : CellView) (position : ℕ) (packets : List Packet) : Type 0 where
  pub begun : Partition
  pub is_begun : IsBegun flows count begin old begun
  pub entry : Entry
  pub place : entry.position ≡ position
  pub made_by : entry.incarnation ≡ old.incarnation
  pub some : 0 < length entry.items
  pub few : length entry.items ≤ limit
  -- with the first of what waits, and with deliveries and timers
  pub looked : List Waiting
  pub rest : List Waiting
  pub left : old.waits ≡ looked ++ rest
  pub after : Partition
  pub filled : Filled flows count old.now begun looked entry.items after
  -- up to the limit, or until nothing is possible behind it
  pub full : length entry.items < limit → (rest ≡ []) × NoneEnabled flows count after (stamp_at after old.now)
  pub sends : SendsAtOnce mode count begun after packets
  -- in every second turn what waited longest is looked at
  pub first : waits_first old.round ≡ true → 0 < length old.waits → 0 < length looked
  -- in the others a delivery or a timer comes first, if one is possible, and in every fourth a timer, if one is due
  pub own : OwnFirst flows count old.now old.round begun entry.items
  pub becomes : new ≡ record old { entries = old.entries ++ entry ∷ []; waits = rest; round = next_round old.round }

-- Nothing is possible in the state ahead, and what waited in vain is let go of.
pub record IsIdle (flows : Flows) (count : ℕ) (begin : Partition) (old new : CellView) : Type 0 where
  pub begun : Partition
  pub is_begun : IsBegun flows count begin old begun
  pub none : NonePossible flows count old.now begun old.waits
  pub becomes : new ≡ record old { waits = []; round = next_round old.round }

-- Something is possible there, but the entry would have this number, which is past those that there are.
pub record IsSpent (flows : Flows) (count : ℕ) (begin : Partition) (old new : CellView) (number : ℕ) : Type 0 where
  pub begun : Partition
  pub is_begun : IsBegun flows count begin old begun
  pub some : NonePossible flows count old.now begun old.waits → ⊥
  pub number_is : (number ≡ is_begun.ahead.position) ⊎ (number ≡ old.incarnation)
  pub past : 2 ^ 62 ≤ number
  pub looked : List Waiting
  pub rest : List Waiting
  pub left : old.waits ≡ looked ++ rest
  pub becomes : new ≡ record old { waits = rest; round = next_round old.round }

abbrev pub CellTurns : Flows → (count : ℕ) → (begin : Partition) → Mode → (limit : ℕ) → (old : CellView) → CellTurn → (new : CellView) → Type 0
CellTurns flows count begin mode limit old (turns.Turned position packets) new = (IsHeld mode old.entries → ⊥) × MakesEntry flows count begin mode limit old new position packets.items
CellTurns flows count begin mode limit old turns.Held new = IsHeld mode old.entries × (new ≡ old)
CellTurns flows count begin mode limit old turns.Idle new = (IsHeld mode old.entries → ⊥) × IsIdle flows count begin old new
CellTurns flows count begin mode limit old (turns.Spent number) new = (IsHeld mode old.entries → ⊥) × IsSpent flows count begin old new number
