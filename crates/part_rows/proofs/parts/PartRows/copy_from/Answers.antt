use Rattle.std.specs.Prelude.{option_map}
use Rattle.dura_value.specs.Views.{message_of, messages_of, answer_of}
use Rattle.flow_messages.specs.Views.{entity_of}
use Rattle.part_rows.specs.Views.{row_of, activity_of}
use Rattle.part_rows.proofs.parts.PartRows.copy_from.Goals as goal

pub returns-clause-same : goal.returns-clause-same
returns-clause-same c =
    let p = c.args.other.now in
    λ i. record {
      number = p.number;
      position = p.position;
      incarnation = p.incarnation;
      stamp = p.stamp;
      taken = λ id n. option_map message_of (c.in_ok-self.ensures i id n);
      answers = λ id n. option_map answer_of (c.in_ok-self-2.ensures i id n);
      instances = λ id. option_map row_of (c.in_ok-self-3.ensures i id);
      entities = λ id. option_map entity_of (c.in_ok-self-4.ensures i id);
      activities = λ id task. option_map activity_of (c.in_ok-self-5.ensures i id task);
      timers = c.in_ok-self-6.ensures.same i;
      queue = messages_of (c.in_ok-self-7.ensures i);
      inboxes = c.in_ok-self-8.ensures i;
      outboxes = c.in_ok-self-9.ensures i;
    }
