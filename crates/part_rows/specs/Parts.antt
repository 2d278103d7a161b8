-- The plain data that all that a partition knows stands for.
use Rattle.std.specs.Prelude.{option_map}
use Rattle.dura_value.specs.Views.{message_of, messages_of, answer_of}
use Rattle.flow_messages.specs.Views.{entity_of}
use Rattle.shared_maps.specs.Maps.{by_id, by_number, by_task}
use Rattle.part_rows.specs.Timers.{timers_in}
use Rattle.dura_model.specs.Partition as plain
use Rattle.part_rows.specs.Views.{row_of, activity_of, inboxes_of, outboxes_of}
use Rattle.part_rows.specs.declared.parts.PartRows.{PartRows}

abbrev pub part_of : PartRows → plain.Partition
part_of p = record {
  number = p.number;
  position = p.position;
  incarnation = p.incarnation;
  stamp = p.stamp;
  taken = λ id n. option_map message_of (by_number p.taken id n);
  answers = λ id n. option_map answer_of (by_number p.answers id n);
  instances = λ id. option_map row_of (by_id p.instances id);
  entities = λ id. option_map entity_of (by_id p.entities id);
  activities = λ id task. option_map activity_of (by_task p.activities id task);
  timers = timers_in p.timers;
  queue = messages_of p.queue;
  inboxes = inboxes_of p.inboxes;
  outboxes = outboxes_of p.outboxes;
}
