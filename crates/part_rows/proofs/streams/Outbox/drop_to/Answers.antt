use Rattle.std.proofs.Common.{◌+◌, sym, subst}
use Rattle.log_items.specs.Streams.{begins_at}
use Rattle.part_rows.specs.Views.{outbox_of}
use Rattle.part_rows.proofs.Boxes.{Goes, stepped}
use Rattle.part_rows.proofs.streams.Outbox.drop_to.Goals as goal

pub loop-self-preserved : goal.loop-self-preserved
loop-self-preserved c =
    let was = c.loop-self.self in
    let start = begins_at c.args.number (outbox_of c.args.self.now) in
    subst (Goes c.args.number start (was.first + 1)) (sym c.in_ok-remove.ensures.rest) (stepped c.args.number was.first was.messages start c.loop-self-test.true c.loop-self.invariant)
