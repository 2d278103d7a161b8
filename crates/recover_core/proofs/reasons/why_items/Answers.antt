use Rattle.std.proofs.Common.{◌+◌, ◌-◌, List, length, drop, sym, ap, subst, arith}
use Rattle.std.specs.Prelude.{option_map}
use Rattle.dura_value.specs.Items as plain
use Rattle.log_items.specs.Plain.{item_of, items_of}
use Rattle.dura_model.specs.Partition.{accepted}
use Rattle.many_logs.specs.Unplaced.{unplaced_by}
use Rattle.part_steps.specs.Applied.{Becomes}
use Rattle.part_steps.specs.Outputs.{outputs_by}
use Rattle.part_steps.specs.States.{state_of, count_of, parts_in}
use Rattle.part_steps.specs.declared.state.Verdict.{Verdict}
use Rattle.recover_core.proofs.FirstRefused.{HasTried, none_tried, not_ready, not_accepted, one_tried, says_why}
use Rattle.recover_core.proofs.Walks.{rest_is, none_left}
use Rattle.recover_core.proofs.reasons.why_items.Goals as goal

pub items-init : goal.items-init
items-init g c = none_tried (g.R.Reactions.flows c.args.reactions.now) (length c.args.states.now) (parts_in c.args.states.now) c.args.partition c.args.state (items_of c.args.items.now) c.requires.sound c.requires.among

pub returns-then-not-is_item_ready : goal.returns-then-not-is_item_ready
returns-then-not-is_item_ready g c = λ position is.
    let flows = g.R.Reactions.flows c.args.reactions.now in
    let count = length c.args.states.now in
    let parts = parts_in c.args.states.now in
    let s = c.items.state in
    let all = c.args.items.now in
    let item = item_of c.item-item.result in
    let rest = items_of (drop (c.items.item-index + 1) all) in
    let so_far = subst (λ (l : List plain.Item). HasTried flows count parts c.args.partition c.args.state s (items_of all) l) (rest_is item_of all c.items.item-index c.item-item.result c.items-test.true c.item-item.is) c.items.invariant in
    let found = not_ready flows count parts c.args.partition c.args.state (items_of all) s rest item so_far c.if-not-is_item_ready.ensures in
    let first = c.position-position.ensures in
    says_why c.reason_of.result c.args.partition (c.position-position.result - 1) position item _ found (omega (arith, first, is)) c.reason_of.ensures

pub apply-requires-clause-sound : goal.apply-requires-clause-sound
apply-requires-clause-sound g c = c.items.invariant.sound

pub apply-requires-clause-begun : goal.apply-requires-clause-begun
apply-requires-clause-begun g c = let same = c.items.invariant.position in let some = c.requires.begun in omega (arith, same, some)

pub returns-in-Refused : goal.returns-in-Refused
returns-in-Refused g c = λ position is.
    let flows = g.R.Reactions.flows c.args.reactions.now in
    let count = length c.args.states.now in
    let parts = parts_in c.args.states.now in
    let s = c.items.state in
    let all = c.args.items.now in
    let item = item_of c.item-item.result in
    let rest = items_of (drop (c.items.item-index + 1) all) in
    let done = subst (λ (v : Verdict). Becomes v s (accepted flows (count_of s) (state_of s) item) (outputs_by flows (state_of s) item)) c.in-Refused.is c.in_ok-next.ensures in
    let so_far = subst (λ (l : List plain.Item). HasTried flows count parts c.args.partition c.args.state s (items_of all) l) (rest_is item_of all c.items.item-index c.item-item.result c.items-test.true c.item-item.is) c.items.invariant in
    let found = not_accepted flows count parts c.args.partition c.args.state (items_of all) s rest item so_far c.if-not-is_item_ready.ensures done.0 in
    let first = c.position-position.ensures in
    says_why c.reason_of-in-Refused.result c.args.partition (c.position-position.result - 1) position item _ found (omega (arith, first, is)) c.reason_of-in-Refused.ensures

pub items-preserved : goal.items-preserved
items-preserved g c =
    let flows = g.R.Reactions.flows c.args.reactions.now in
    let count = length c.args.states.now in
    let parts = parts_in c.args.states.now in
    let s = c.items.state in
    let all = c.args.items.now in
    let item = item_of c.item-item.result in
    let rest = items_of (drop (c.items.item-index + 1) all) in
    let done = subst (λ (v : Verdict). Becomes v s (accepted flows (count_of s) (state_of s) item) (outputs_by flows (state_of s) item)) c.in-Accepted.is c.in_ok-next.ensures in
    let so_far = subst (λ (l : List plain.Item). HasTried flows count parts c.args.partition c.args.state s (items_of all) l) (rest_is item_of all c.items.item-index c.item-item.result c.items-test.true c.item-item.is) c.items.invariant in
    one_tried flows count parts c.args.partition c.args.state (items_of all) s rest item so_far c.in-Accepted.next c.if-not-is_item_ready.ensures done.0 done.4 done.2 done.3

pub returns : goal.returns
returns g c = λ position is.
    let flows = g.R.Reactions.flows c.args.reactions.now in
    let count = length c.args.states.now in
    let parts = parts_in c.args.states.now in
    let s = c.items.state in
    let all = c.args.items.now in
    let ended = subst (λ (l : List plain.Item). HasTried flows count parts c.args.partition c.args.state s (items_of all) l) (none_left item_of all c.items.item-index c.items-test.false) c.items.invariant in
    ap (option_map (unplaced_by c.args.partition position)) (sym ended.same)
