use Rattle.std.proofs.Common.{◌∙◌, ◌&&◌, ◌+◌, Bool, drop, refl, sym, ap}
use Rattle.log_items.specs.Plain.{item_of, items_of}
use Rattle.many_logs.specs.Placing.{are_ready}
use Rattle.part_steps.specs.States.{parts_in}
use Rattle.recover_core.proofs.Walks.{rest_is, none_left}
use Rattle.recover_core.proofs.ready.are_items_ready.Goals as goal

pub items-init : goal.items-init
items-init c = refl

pub returns-then-not-is_item_ready : goal.returns-then-not-is_item_ready
returns-then-not-is_item_ready c =
    let all = c.args.items.now in
    let parts = parts_in c.args.states.now in
    let behind = items_of (drop (c.items.item-index + 1) all) in
    ap (λ (b : Bool). b && are_ready parts c.args.partition behind) c.if-not-is_item_ready.ensures
    ∙ sym (ap (are_ready parts c.args.partition) (rest_is item_of all c.items.item-index c.item-item.result c.items-test.true c.item-item.is))
    ∙ c.items.invariant

pub items-preserved : goal.items-preserved
items-preserved c =
    let all = c.args.items.now in
    let parts = parts_in c.args.states.now in
    let behind = items_of (drop (c.items.item-index + 1) all) in
    ap (λ (b : Bool). b && are_ready parts c.args.partition behind) c.if-not-is_item_ready.ensures
    ∙ sym (ap (are_ready parts c.args.partition) (rest_is item_of all c.items.item-index c.item-item.result c.items-test.true c.item-item.is))
    ∙ c.items.invariant

pub returns : goal.returns
returns c =
    let all = c.args.items.now in
    sym (ap (are_ready (parts_in c.args.states.now) c.args.partition) (none_left item_of all c.items.item-index c.items-test.false)) ∙ c.items.invariant
