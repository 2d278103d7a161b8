-- What the kinds of lines say, of a world and of the state of a partition.
use Rattle.std.specs.Prelude.{Bool, Option, is_some, option_map}
use Rattle.dura_model.specs.Partition.{Partition}
use Rattle.dura_model.specs.World.{World}
use Rattle.dura_value.specs.Ids.{Id}
use Rattle.dura_value.specs.Messages.{Answer}
use Rattle.flow_syntax.specs.Syntax.{Flows}
use Rattle.part_steps.specs.Listing.{entity_standing, instance_standing}
use Rattle.state_lines.specs.Table.{has_entity, has_instance, answer_at, entity_answer, instance_answer}
use Rattle.state_lines.specs.declared.kind.Kind.{Kind}
use Rattle.state_lines.specs.declared.kind.Kind.TheVariants.{Entity, Instance}

-- whether a world has a line of this kind for an id
abbrev pub has_line : Kind → World → Id → Bool
has_line Entity world = has_entity world
has_line Instance world = has_instance world

-- the answer that the line tells
abbrev pub line_answer : Kind → Flows → World → Id → Option Answer
line_answer Entity flows world = entity_answer flows world
line_answer Instance flows world = instance_answer world

-- whether a partition keeps what a line of this kind is for
abbrev pub keeps : Kind → Partition → Id → Bool
keeps Entity p id = is_some (p.entities id)
keeps Instance p id = is_some (p.instances id)

-- the answer that it has for the line
abbrev pub kept_answer : Kind → Flows → Partition → Id → Option Answer
kept_answer Entity flows p id = option_map (answer_at flows id) (entity_standing p id)
kept_answer Instance flows p id = instance_standing flows p id
