-- What a listing of a partition tells: of each entity and each instance the answer that a query of it would get, whoever holds
-- the entity.
use Rattle.std.specs.Prelude.{Option, option_map}
use Rattle.dura_value.specs.Ids.{Id}
use Rattle.dura_value.specs.Messages.{Answer, is_value}
use Rattle.flow_syntax.specs.Syntax.{Flows}
use Rattle.dura_model.specs.Deliveries.{standing}
use Rattle.dura_model.specs.Partition.{Partition, instance_at}

abbrev pub entity_standing : Partition → Id → Option Answer
entity_standing p id = option_map (λ e. is_value e.value) (p.entities id)

abbrev pub instance_standing : Flows → Partition → Id → Option Answer
instance_standing flows p id = option_map (λ o. standing o.machine.progress) (instance_at flows p id)
