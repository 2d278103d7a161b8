use Rattle.std.proofs.Common.{◌+◌, List, drop, refl, subst}
use Rattle.dura_value.specs.Items as plain
use Rattle.dura_value.specs.Dependencies.{Ready}
use Rattle.log_items.specs.Plain.{item_of, items_of}
use Rattle.spec_tracker.specs.Marks.{floors_of, length_in}
use Rattle.entry_verdicts.proofs.Naming.{HasPassed, one_passed, next_so}
use Rattle.entry_verdicts.proofs.Walking.{one_left}
use Rattle.entry_verdicts.proofs.verdicts.are_ready.Goals as goal

pub returns-then-not-is_item_ready-clause-not : goal.returns-then-not-is_item_ready-clause-not
returns-then-not-is_item_ready-clause-not c = λ same each.
    let P = Ready (length_in c.args.marks.now) (floors_of c.args.marks.now) in
    let all = c.args.items.now in
    let i = c.loop-item.item-index in
    let so_far = subst (λ (l : List plain.Item). HasPassed P (items_of all) l) (one_left item_of all i c.item-item.result c.loop-item-test.true c.item-item.is) c.loop-item.invariant in
    c.if-not-is_item_ready.ensures.not refl (next_so P (items_of all) (items_of (drop (i + 1) all)) (item_of c.item-item.result) so_far each)

pub loop-item-preserved : goal.loop-item-preserved
loop-item-preserved c =
    let P = Ready (length_in c.args.marks.now) (floors_of c.args.marks.now) in
    let all = c.args.items.now in
    let i = c.loop-item.item-index in
    let so_far = subst (λ (l : List plain.Item). HasPassed P (items_of all) l) (one_left item_of all i c.item-item.result c.loop-item-test.true c.item-item.is) c.loop-item.invariant in
    one_passed P (items_of all) (items_of (drop (i + 1) all)) (item_of c.item-item.result) so_far (c.if-not-is_item_ready.ensures.ready refl)
