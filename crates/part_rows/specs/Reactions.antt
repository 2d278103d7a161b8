-- What instances and entities make of what reaches them.
use Rattle.std.specs.Prelude.{ℕ, List, map, Bool, Option, option_map}
use Rattle.dura_value.specs.Ids.{Id}
use Rattle.dura_value.specs.Messages.{Body, Message}
use Rattle.dura_value.specs.Views.{messages_of}
use Rattle.flow_syntax.specs.Syntax.{Flows}
use Rattle.flow_syntax.specs.Machine.{Event, Asked}
use Rattle.flow_syntax.specs.Entity.{Entity, Delivered, deliver as deliver_to}
use Rattle.flow_messages.specs.Views.{event_of, asked_of}
use Rattle.dura_model.specs.Deliveries.{Effect}
use Rattle.dura_model.specs.Steps.{entity_of}
use Rattle.part_rows.specs.declared.reactions.Reaction as seen
use Rattle.part_rows.specs.declared.rows.Waiting.{Waiting}
use Rattle.part_rows.specs.Views.{waiting_of}

-- What a message or an event makes of an instance, as its row sees it: the event of its history that it is, if it is one; who
-- waits for its end, where it is there; what is sent and asked for; and whether what is pending is given up.
pub record Reaction : Type 0 where
  pub event : Option Event
  pub waiting : Option (List (Id × ℕ))
  pub sent : List Message
  pub asked : List Asked
  pub gives_up : Bool

-- what an effect is to the row
abbrev pub reaction : Option Event → Effect → Reaction
reaction event e = record { event = event; waiting = option_map (λ o. o.waiting) e.instance; sent = e.sent; asked = e.asked; gives_up = e.gives_up }

abbrev pub waits_of : List Waiting → List (Id × ℕ)
waits_of = map waiting_of

abbrev pub reaction_of : seen.Reaction → Reaction
reaction_of made = record { event = option_map event_of made.event; waiting = option_map (λ w. waits_of w.items) made.waiting; sent = messages_of made.sent.items; asked = map asked_of made.asked.items; gives_up = made.gives_up }

-- what a message makes of an entity that is kept, or of one as its class begins, at this stamp
abbrev pub delivered : Flows → (class : List ℕ) → Option Entity → (from to : Id) → ℕ → Body → Delivered
delivered flows class kept from to stamp body = deliver_to flows (record (entity_of flows class kept) { last = stamp }) class from to body
