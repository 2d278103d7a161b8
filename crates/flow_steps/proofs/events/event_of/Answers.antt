use Rattle.std.proofs.Common.{option_map}
use Rattle.dura_value.specs.Views.{id_of, body_of}
use Rattle.flow_syntax.specs.Views.{flows_of}
use Rattle.flow_messages.specs.Views.{event_of as seen}
use Rattle.flow_steps.proofs.EventsOf.{of_it}
use Rattle.flow_steps.proofs.events.event_of.Goals as goal

pub returns-in_ok-event-in-Some : goal.returns-in_ok-event-in-Some
returns-in_ok-event-in-Some c =
    let message = c.args.message.now in
    of_it (flows_of c.args.flows.now) c.args.instance.now c.in-Some.instance (id_of message.from) (id_of message.to) (body_of message.body) (option_map seen c.in_ok-event-in-Some.event) c.in-Some.is c.in_ok-event-in-Some.ensures
