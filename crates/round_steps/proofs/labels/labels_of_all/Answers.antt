use Rattle.std.proofs.Common.{◌∙◌, ap, arith, length}
use Rattle.dura_model.specs.Entries.{labels_of}
use Rattle.log_items.specs.Plain.{items_of}
use Rattle.round_steps.proofs.Counts.{all_entries, next_entry}
use Rattle.round_steps.proofs.labels.labels_of_all.Goals as goal

pub entries-preserved : goal.entries-preserved
entries-preserved c =
    let next = next_entry c.args.trail.now c.entries.settled-index c.settled-item.result c.entries-test.true c.settled-item.is in
    let sum = c.in-Some.ensures in
    let before = c.entries.invariant in
    let one = c.in_ok-more.ensures in
    let same = ap (λ items. length (labels_of (items_of items))) c.as_slice.ensures in
    omega (arith, next, sum, before, one, same)

pub returns : goal.returns
returns c = c.entries.invariant ∙ all_entries c.args.trail.now c.entries.settled-index c.entries-test.false
