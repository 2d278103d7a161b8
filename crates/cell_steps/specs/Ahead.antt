-- What a turn makes of the state ahead.
use Rattle.std.specs.Prelude.{◌≡◌, ◌⊎◌, ℕ, ◌<◌, ◌≤◌, ◌^◌, true, List, [], ◌∷◌, ◌++◌, length}
use Rattle.std.specs.List.{All}
use Rattle.cell_waits.specs.Waits.{Waiting, MayWait, waits_of}
use Rattle.cell_waits.specs.Indices.{IsIndexed}
use Rattle.dura_model.specs.Partition.{Partition, enter}
use Rattle.flow_syntax.specs.Syntax.{Flows}
use Rattle.log_items.specs.Plain.{items_of}
use Rattle.part_steps.specs.Enabled.{NoneEnabled, stamp_at}
use Rattle.part_steps.specs.States.{IsSound, state_of, count_of}
use Rattle.part_steps.specs.declared.state.PartState.{PartState}
use Rattle.cell_steps.specs.Fills.{Filled}
use Rattle.cell_steps.specs.Sent.{SendsAtOnce}
use Rattle.cell_steps.specs.Steps.{Makes, last_of}
use Rattle.cell_steps.specs.Possible.{NonePossible, OwnFirst, waits_first}
use Rattle.log_items.specs.declared.items.Packet.{Packet}
use Rattle.cell_steps.specs.declared.mode.Mode.{Mode}
use Rattle.cell_steps.specs.declared.round.Round.{Round}
use Rattle.cell_steps.specs.declared.live.Live.{Live}
use Rattle.cell_steps.specs.declared.step.Step.{Step}
use Rattle.cell_steps.specs.declared.turning.Turned.{Turned}
use Rattle.cell_steps.specs.declared.turning.Turned.TheVariants as turns

-- The state ahead: that behind all steps.
abbrev pub ahead_of : Live → PartState
ahead_of live = last_of live.base live.steps.items

-- in the entry that is next
abbrev pub begun_of : Live → Partition
begun_of live = enter live.incarnation (state_of (ahead_of live))

-- what a turn needs
pub record MayTurn (live : Live) : Type 0 where
  pub sound : IsSound (ahead_of live)
  pub younger : (state_of (ahead_of live)).incarnation ≤ live.incarnation
  pub room : (state_of (ahead_of live)).position ≤ 2 ^ 62
  pub indexed : IsIndexed live.waits
  pub waits : All MayWait (waits_of live.waits)

-- Of what waits the first were looked at.
pub record LeavesWaits (old new : Live) (looked : List Waiting) : Type 0 where
  pub base : new.base ≡ old.base
  pub incarnation : new.incarnation ≡ old.incarnation
  pub given : new.given ≡ old.given
  pub left : waits_of old.waits ≡ looked ++ waits_of new.waits
  pub indexed : IsIndexed new.waits
  pub waits : All MayWait (waits_of new.waits)

-- One step more was made, and of what it sends this goes out at once.
pub record HasStep (flows : Flows) (mode : Mode) (now limit : ℕ) (round : Round) (old new : Live) (packets : List Packet) : Type 0 where
  pub step : Step
  pub steps : new.steps.items ≡ old.steps.items ++ step ∷ []
  pub makes : Makes flows (ahead_of old) step
  pub incarnation : step.entry.incarnation ≡ old.incarnation
  pub few : length step.entry.items ≤ limit
  pub looked : List Waiting
  pub leaves : LeavesWaits old new looked
  pub filled : Filled flows (count_of (ahead_of old)) now (begun_of old) looked (items_of step.entry.items) (state_of step.after)
  pub full : length step.entry.items < limit → (waits_of new.waits ≡ []) × NoneEnabled flows (count_of (ahead_of old)) (state_of step.after) (stamp_at (state_of step.after) now)
  pub sends : SendsAtOnce mode (count_of (ahead_of old)) (begun_of old) (state_of step.after) packets
  pub first : waits_first round ≡ true → 0 < length (waits_of old.waits) → 0 < length looked
  pub own : OwnFirst flows (count_of (ahead_of old)) now round (begun_of old) (items_of step.entry.items)

-- Nothing is possible.
pub record Rests (flows : Flows) (now : ℕ) (old new : Live) : Type 0 where
  pub steps : new.steps ≡ old.steps
  pub looked : List Waiting
  pub leaves : LeavesWaits old new looked
  pub gone : waits_of new.waits ≡ []
  pub none : NonePossible flows (count_of (ahead_of old)) now (begun_of old) (waits_of old.waits)

-- Something is, but its numbers are used up.
pub record Ends (flows : Flows) (now : ℕ) (old new : Live) (number : ℕ) : Type 0 where
  pub steps : new.steps ≡ old.steps
  pub looked : List Waiting
  pub leaves : LeavesWaits old new looked
  pub some : NonePossible flows (count_of (ahead_of old)) now (begun_of old) (waits_of old.waits) → ⊥
  pub number_is : (number ≡ (state_of (ahead_of old)).position) ⊎ (number ≡ old.incarnation)
  pub past : 2 ^ 62 ≤ number

abbrev pub Turns : Flows → Mode → (now limit : ℕ) → (round : Round) → (old : Live) → Turned → Type 0
Turns flows mode now limit round old (turns.Made new packets) = HasStep flows mode now limit round old new packets.items
Turns flows mode now limit round old (turns.Idle new) = Rests flows now old new
Turns flows mode now limit round old (turns.Spent new number) = Ends flows now old new number
