use Rattle.std.proofs.Common.{◌∙◌, arith}
use Rattle.round_steps.proofs.Counts.{all_items, next_item}
use Rattle.round_steps.proofs.labels.labels_among.Goals as goal

pub items-preserved : goal.items-preserved
items-preserved c =
    let next = next_item c.args.items.now c.items.item-index c.item-item.result c.items-test.true c.item-item.is in
    let sum = c.in-Some.ensures in
    let before = c.items.invariant in
    let one = c.label_count.ensures in
    omega (arith, next, sum, before, one)

pub returns : goal.returns
returns c = c.items.invariant ∙ all_items c.args.items.now c.items.item-index c.items-test.false
