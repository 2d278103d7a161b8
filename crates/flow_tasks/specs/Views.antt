-- The plain data that tasks, sections and kept events stand for.
use Rattle.std.specs.Prelude.{List, map, option_map}
use Rattle.dura_value.specs.Views.{spot_of, spots_of}
use Rattle.flow_tasks.specs.declared.tasks.Kind.{Kind}
use Rattle.flow_tasks.specs.declared.tasks.Kind.TheVariants as kinds
use Rattle.flow_tasks.specs.declared.tasks.Arrival.{Arrival}
use Rattle.flow_tasks.specs.declared.tasks.Task.{Task}
use Rattle.flow_tasks.specs.declared.tasks.Candidate.{Candidate}
use Rattle.flow_tasks.specs.declared.sections.Section.{Section}
use Rattle.flow_tasks.specs.declared.sections.Section.TheVariants as sections
use Rattle.flow_tasks.specs.declared.raised.Raised.{Raised}
use Rattle.flow_syntax.specs.Machine as plain

abbrev pub kind_of : Kind → plain.Kind
kind_of (kinds.Activity name argument) = plain.of_activity name argument
kind_of kinds.Flow = plain.of_flow
kind_of (kinds.Entity spot) = plain.of_entity (spot_of spot)
kind_of (kinds.Timer due) = plain.of_timer due
kind_of (kinds.Event name) = plain.of_event name
kind_of (kinds.Grant set) = plain.of_grant (spots_of set)

abbrev pub arrival_of : Arrival → plain.Arrival
arrival_of arrival = record { outcome = arrival.outcome; order = arrival.order }

abbrev pub task_of : Task → plain.Task
task_of task = record { kind = kind_of task.kind; arrival = option_map arrival_of task.arrival }

abbrev pub tasks_of : List Task → List plain.Task
tasks_of = map task_of

abbrev pub candidate_of : Candidate → plain.Candidate
candidate_of best = record { place = best.place; order = best.order }

abbrev pub section_of : Section → plain.Section
section_of sections.Outside = plain.outside
section_of (sections.Acquiring task set) = plain.acquiring task (spots_of set)
section_of (sections.Inside set) = plain.inside (spots_of set)

abbrev pub raised_of : Raised → plain.Raised
raised_of one = record { name = one.name; value = one.value }
