use Rattle.std.proofs.Common.{refl, subst}
use Rattle.part_steps.specs.declared.batch.Batch.{Batch}
use Rattle.part_steps.specs.declared.batch.Turn.{Turn}
use Rattle.part_steps.specs.Batches.{BatchGoesOn}
use Rattle.part_steps.proofs.Batching.{filled_first, filled_more}
use Rattle.part_steps.proofs.batch.next_items.Goals as goal

pub loop-init : goal.loop-init
loop-init g c =
    let begun : Batch = record { state = c.args.state; items = c.new.result; outputs = c.new-2.result } in
    filled_first (g.R.Reactions.flows c.args.reactions.now) c.args.now c.args.state begun c.requires.sound c.requires.begun refl c.new.ensures.items c.new-2.ensures.items

pub loop-preserved : goal.loop-preserved
loop-preserved g c =
    let flows = g.R.Reactions.flows c.args.reactions.now in
    let more = subst (λ (t : Turn). BatchGoesOn flows c.args.now c.loop.batch t) c.in-More.is c.in_ok-next.ensures in
    filled_more flows c.args.now c.args.state c.loop.counter c.loop.batch c.in-More.next c.loop.invariant more
