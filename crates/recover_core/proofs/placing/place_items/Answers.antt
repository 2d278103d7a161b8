use Rattle.std.proofs.Common.{◌<◌, ◌+◌, List, drop, subst, arith}
use Rattle.dura_value.specs.Items as plain
use Rattle.log_items.specs.Plain.{item_of, items_of}
use Rattle.dura_model.specs.Partition.{accepted}
use Rattle.part_steps.specs.Applied.{Becomes}
use Rattle.part_steps.specs.Outputs.{outputs_by}
use Rattle.part_steps.specs.States.{state_of, count_of}
use Rattle.part_steps.specs.declared.state.Verdict.{Verdict}
use Rattle.recover_core.proofs.EntriesPlaced.{HasApplied, none_applied, one_applied, one_refused, all_applied}
use Rattle.recover_core.proofs.SameIncarnation.{stays_in_incarnation, stays_in_place}
use Rattle.recover_core.proofs.Walks.{rest_is, none_left}
use Rattle.recover_core.proofs.placing.place_items.Goals as goal

pub loop-item-init : goal.loop-item-init
loop-item-init g c = none_applied (g.R.Reactions.flows c.args.reactions.now) c.args.state (items_of c.args.items.now) c.requires.sound

pub apply-requires-clause-begun : goal.apply-requires-clause-begun
apply-requires-clause-begun g c = let same = c.loop-item.invariant.position in let some = c.requires.begun in omega (arith, same, some)

pub loop-item-preserved : goal.loop-item-preserved
loop-item-preserved g c =
    let flows = g.R.Reactions.flows c.args.reactions.now in
    let s = c.loop-item.state in
    let all = c.args.items.now in
    let item = item_of c.item-item.result in
    let done = subst (λ (v : Verdict). Becomes v s (accepted flows (count_of s) (state_of s) item) (outputs_by flows (state_of s) item)) c.in-Accepted.is c.in_ok-next.ensures in
    let so_far = subst (λ (l : List plain.Item). HasApplied flows c.args.state s (items_of all) l) (rest_is item_of all c.loop-item.item-index c.item-item.result c.loop-item-test.true c.item-item.is) c.loop-item.invariant in
    let begun : 0 < (state_of s).position = let same = so_far.position in let some = c.requires.begun in omega (arith, same, some) in
    one_applied flows c.args.state s c.in-Accepted.next (items_of all) (items_of (drop (c.loop-item.item-index + 1) all)) item so_far done.0 done.4 done.2 done.3 (stays_in_incarnation flows item s (state_of c.in-Accepted.next) so_far.sound begun done.0)
    (stays_in_place flows item s (state_of c.in-Accepted.next) so_far.sound begun done.0)

pub returns-in-Refused : goal.returns-in-Refused
returns-in-Refused g c =
    let flows = g.R.Reactions.flows c.args.reactions.now in
    let s = c.loop-item.state in
    let all = c.args.items.now in
    let item = item_of c.item-item.result in
    let done = subst (λ (v : Verdict). Becomes v s (accepted flows (count_of s) (state_of s) item) (outputs_by flows (state_of s) item)) c.in-Refused.is c.in_ok-next.ensures in
    let so_far = subst (λ (l : List plain.Item). HasApplied flows c.args.state s (items_of all) l) (rest_is item_of all c.loop-item.item-index c.item-item.result c.loop-item-test.true c.item-item.is) c.loop-item.invariant in
    one_refused flows c.args.state s (items_of all) (items_of (drop (c.loop-item.item-index + 1) all)) item so_far done.0

pub returns : goal.returns
returns g c =
    let flows = g.R.Reactions.flows c.args.reactions.now in
    let all = c.args.items.now in
    all_applied flows c.args.state c.loop-item.state (items_of all) (subst (λ (l : List plain.Item). HasApplied flows c.args.state c.loop-item.state (items_of all) l) (none_left item_of all c.loop-item.item-index c.loop-item-test.false) c.loop-item.invariant)
