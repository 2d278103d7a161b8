-- What comes to a cell.
use Rattle.std.specs.Prelude.{◌≡◌, ◌<◌, ◌+◌, ℕ, true, false, List, [], ◌∷◌, ◌++◌, count_by, Option, Some, None}
use Rattle.std.specs.List.{list_any}
use Rattle.cell_waits.specs.Waits.{Waiting, is_of_stream, is_outcome_of, request_in}
use Rattle.dura_model.specs.Partition.{Partition}
use Rattle.dura_model.specs.Steps.{number_in}
use Rattle.dura_model.specs.World.{Activity}
use Rattle.dura_value.specs.Ids.{Id}
use Rattle.dura_value.specs.Items.{Identity, took, got, ended}
use Rattle.dura_value.specs.Messages.{Message}
use Rattle.dura_value.specs.Same.{message_eq}
use Rattle.dura_value.specs.Views.{answer_of}
use Rattle.dura_value.specs.declared.outcome.Outcome.{Outcome}
use Rattle.spec_cell.specs.Views.{CellView}
use Rattle.spec_cell.specs.declared.coming.Arrived.{Arrived}
use Rattle.spec_cell.specs.declared.coming.Arrived.TheVariants as arrivals
use Rattle.spec_cell.specs.declared.coming.Offered.{Offered}
use Rattle.spec_cell.specs.declared.coming.Offered.TheVariants as offers
use Rattle.spec_cell.specs.declared.coming.Recorded.{Recorded}
use Rattle.spec_cell.specs.declared.coming.Recorded.TheVariants as records

-- it waits behind all others
abbrev pub with_wait : Waiting → CellView → CellView
with_wait w c = record c { waits = c.waits ++ w ∷ [] }

-- ---- packets

-- the number of the packet of a stream that may come next: behind those that were taken in ahead and those that wait
abbrev pub next_from : Partition → List Waiting → (source : ℕ) → ℕ
next_from ahead waits source = (ahead.inboxes source).next + count_by (is_of_stream source) waits

-- The packet that may come next waits; of another its number tells whether it came before or others are to come first, and it is let
-- go of.
abbrev pub Arrives : (ahead : Partition) → (source : Identity) → (number : ℕ) → Message → (old : CellView) → Arrived → (new : CellView) → Type 0
Arrives ahead source number message old arrivals.Queued new =
    (number ≡ next_from ahead old.waits source.partition) × (new ≡ with_wait (record { item = got source number message; activity = None }) old)
Arrives ahead source number message old (arrivals.Repeat next) new = (next ≡ next_from ahead old.waits source.partition) × (number < next) × (new ≡ old)
Arrives ahead source number message old (arrivals.Gap next) new = (next ≡ next_from ahead old.waits source.partition) × (next < number) × (new ≡ old)

-- ---- outcomes

-- the activity is pending ahead, and no outcome of it waits
abbrev pub IsAwaited : (ahead : Partition) → List Waiting → Id → (task : ℕ) → Activity → Type 0
IsAwaited ahead waits id task activity = (ahead.activities id task ≡ Some activity) × (list_any (is_outcome_of id task activity) waits ≡ false)

abbrev pub Records : (ahead : Partition) → Id → (task : ℕ) → Activity → Outcome → (old : CellView) → Recorded → (new : CellView) → Type 0
Records ahead id task activity outcome old records.Recorded new =
    IsAwaited ahead old.waits id task activity × (new ≡ with_wait (record { item = ended id task outcome; activity = Some activity }) old)
Records ahead id task activity outcome old records.NotPending new = (IsAwaited ahead old.waits id task activity → ⊥) × (new ≡ old)

-- ---- requests

abbrev pub or_else : Option Message → Option Message → Option Message
or_else None other = other
or_else (Some message) other = Some message

-- the request of a client under a number that was taken ahead, or waits
abbrev pub known_in : (ahead : Partition) → List Waiting → Message → Option Message
known_in ahead waits message = or_else (ahead.taken message.from (number_in message.body)) (request_in waits message.from (number_in message.body))

-- Of a request what is known under its client and its number: the same, which is answered by what is settled or isn't; or another one;
-- or nothing.
abbrev pub IsKnownAs : (base ahead : Partition) → List Waiting → Message → Option Offered → Type 0
IsKnownAs base ahead waits message None = known_in ahead waits message ≡ None
IsKnownAs base ahead waits message (Some offers.Clash) = (known : Message) × (known_in ahead waits message ≡ Some known) × (message_eq known message ≡ false)
IsKnownAs base ahead waits message (Some offers.Taken) = (known : Message) × (known_in ahead waits message ≡ Some known) × (message_eq known message ≡ true) × (base.answers message.from (number_in message.body) ≡ None)
IsKnownAs base ahead waits message (Some (offers.Kept answer)) = (known : Message) × (known_in ahead waits message ≡ Some known) × (message_eq known message ≡ true) × (base.answers message.from (number_in message.body) ≡ Some (answer_of answer))
IsKnownAs base ahead waits message (Some offers.Queued) = ⊥

-- A request that isn't known waits; of another what is known is told.
abbrev pub Offers : (base ahead : Partition) → Message → (old : CellView) → Offered → (new : CellView) → Type 0
Offers base ahead message old offers.Queued new = (known_in ahead old.waits message ≡ None) × (new ≡ with_wait (record { item = took message; activity = None }) old)
Offers base ahead message old offers.Clash new = IsKnownAs base ahead old.waits message (Some offers.Clash) × (new ≡ old)
Offers base ahead message old offers.Taken new = IsKnownAs base ahead old.waits message (Some offers.Taken) × (new ≡ old)
Offers base ahead message old (offers.Kept answer) new = IsKnownAs base ahead old.waits message (Some (offers.Kept answer)) × (new ≡ old)
