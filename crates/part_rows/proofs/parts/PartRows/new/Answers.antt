-- Each part of what was made new is the one of a partition where nothing happened.
use Rattle.std.specs.Prelude.{option_map}
use Rattle.dura_value.specs.Views.{message_of, answer_of, messages_of}
use Rattle.flow_messages.specs.Views.{entity_of}
use Rattle.part_rows.specs.Views.{row_of, activity_of}
use Rattle.part_rows.proofs.parts.PartRows.new.Goals as goal

pub returns-clause-fresh : goal.returns-clause-fresh
returns-clause-fresh c = λ i. record {
  number = c.args.number;
  position = 0;
  incarnation = 0;
  stamp = 0;
  taken = λ id n. option_map message_of (c.new.ensures i id n);
  answers = λ id n. option_map answer_of (c.new-2.ensures i id n);
  instances = λ id. option_map row_of (c.new-3.ensures i id);
  entities = λ id. option_map entity_of (c.new-4.ensures i id);
  activities = λ id task. option_map activity_of (c.new-5.ensures i id task);
  timers = c.new-6.ensures.none i;
  queue = messages_of (c.new-7.ensures i);
  inboxes = c.new-8.ensures i;
  outboxes = c.new-9.ensures i;
}
