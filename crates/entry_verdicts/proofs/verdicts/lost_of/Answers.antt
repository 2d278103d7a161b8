use Rattle.std.proofs.Common.{◌+◌, List, drop, subst}
use Rattle.dura_value.specs.Items as plain
use Rattle.dura_value.specs.Dependencies.{Lost}
use Rattle.log_items.specs.Plain.{item_of, items_of}
use Rattle.spec_tracker.specs.Marks.{identity_of, floors_of}
use Rattle.entry_verdicts.proofs.Naming.{HasPassed, one_passed, is_named}
use Rattle.entry_verdicts.proofs.Walking.{one_left}
use Rattle.entry_verdicts.proofs.verdicts.lost_of.Goals as goal

abbrev kept : List plain.Floor → plain.Identity → Type 0
kept floors e = Lost floors e → ⊥

pub returns-in-Some-clause-some : goal.returns-in-Some-clause-some
returns-in-Some-clause-some c =
    let P = kept (floors_of c.args.marks.now) in
    let all = c.args.items.now in
    let i = c.loop-item.item-index in
    let so_far = subst (λ (l : List plain.Item). HasPassed P (items_of all) l) (one_left item_of all i c.item-item.result c.loop-item-test.true c.item-item.is) c.loop-item.invariant in
    (is_named P (items_of all) (items_of (drop (i + 1) all)) (item_of c.item-item.result) (identity_of c.in-Some.dep) so_far c.in-Some.ensures.named, c.in-Some.ensures.lost)

pub loop-item-preserved : goal.loop-item-preserved
loop-item-preserved c =
    let P = kept (floors_of c.args.marks.now) in
    let all = c.args.items.now in
    let i = c.loop-item.item-index in
    let so_far = subst (λ (l : List plain.Item). HasPassed P (items_of all) l) (one_left item_of all i c.item-item.result c.loop-item-test.true c.item-item.is) c.loop-item.invariant in
    one_passed P (items_of all) (items_of (drop (i + 1) all)) (item_of c.item-item.result) so_far c.in_default.ensures.none
