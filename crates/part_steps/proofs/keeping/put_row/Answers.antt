use Rattle.std.specs.Prelude.{option_map}
use Rattle.dura_value.specs.Views.{id_of}
use Rattle.flow_messages.specs.Views.{event_of}
use Rattle.part_rows.specs.Reactions.{waits_of}
use Rattle.part_rows.specs.Views.{row_of}
use Rattle.part_rows.specs.Parts.{part_of}
use Rattle.part_steps.proofs.PutBack.{row_put_back}
use Rattle.part_steps.proofs.keeping.put_row.Goals as goal

pub returns-clause-put : goal.returns-clause-put
returns-clause-put c =
    row_put_back (part_of c.args.rows.now) (part_of c.take_instance.new.self) (part_of c.replace_instance.new.self) (id_of c.args.id.now)
    (option_map row_of c.in_ok-row.row) (option_map row_of c.in_ok-next.next) c.args.stamp (option_map event_of c.args.event) (option_map (λ w. waits_of w.items) c.args.waiting)
    c.in_ok-row.ensures.row c.in_ok-row.ensures.taken c.in_ok-next.ensures c.in_ok-replace_instance.ensures.put
