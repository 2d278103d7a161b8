-- The plain data that events, entities and what instances ask for stand for.
use Rattle.std.specs.Prelude.{option_map}
use Rattle.dura_value.specs.Views.{id_of, reply_of, answer_of}
use Rattle.flow_syntax.specs.Machine as plain
use Rattle.flow_syntax.specs.Entity as entities
use Rattle.flow_messages.specs.declared.entities.Entity.{Entity}
use Rattle.flow_messages.specs.declared.made.Asked.{Asked}
use Rattle.flow_messages.specs.declared.made.Asked.TheVariants as asks
use Rattle.flow_messages.specs.declared.events.Event.{Event}
use Rattle.flow_messages.specs.declared.events.Event.TheVariants as events
use Rattle.flow_messages.specs.declared.events.Past.{Past}

abbrev pub asked_of : Asked → plain.Asked
asked_of (asks.Activity task name argument) = plain.an_activity task name argument
asked_of (asks.Timer task due) = plain.a_timer task due

abbrev pub event_of : Event → plain.Event
event_of (events.Started sender argument reply) = plain.started (id_of sender) argument (reply_of reply)
event_of (events.Resulted task answer) = plain.resulted task (answer_of answer)
event_of (events.Raised name value) = plain.was_raised name value
event_of (events.Fired task) = plain.fired task
event_of (events.Granted task) = plain.was_granted task

abbrev pub past_of : Past → plain.Past
past_of past = record { event = event_of past.event; stamp = past.stamp }

abbrev pub entity_of : Entity → entities.Entity
entity_of e = record { value = e.value; holder = option_map id_of e.holder; last = e.last }
