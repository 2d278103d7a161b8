-- The plain data that instances and what is made of them stand for.
use Rattle.std.specs.Prelude.{map, option_map}
use Rattle.dura_value.specs.Views.{messages_of}
use Rattle.flow_messages.specs.Views.{asked_of}
use Rattle.flow_machine.specs.Views.{machine_of}
use Rattle.flow_syntax.specs.Syntax.{Flows}
use Rattle.flow_syntax.specs.Views.{flows_of}
use Rattle.dura_model.specs.World as world
use Rattle.dura_model.specs.Deliveries as plain
use Rattle.part_rows.specs.Reactions.{waits_of}
use Rattle.flow_steps.specs.declared.instance.Instance.{Instance}
use Rattle.flow_steps.specs.declared.instance.Effect.{Effect}
use Rattle.flow_steps.specs.declared.machines.Machines.{Machines}

abbrev pub instance_of : Instance → world.Orchestration
instance_of o = record { machine = machine_of o.machine; waiting = waits_of o.waiting.items }

abbrev pub effect_of : Effect → plain.Effect
effect_of e = record { instance = option_map instance_of e.instance; sent = messages_of e.sent.items; asked = map asked_of e.asked.items; gives_up = e.gives_up }

-- the flows and classes that machines go by
abbrev pub flows_by : Machines → Flows
flows_by machines = flows_of machines.flows.now
