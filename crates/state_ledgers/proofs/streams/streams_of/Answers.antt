use Rattle.std.proofs.Common.{map, sym, ap, ◌∙◌}
use Rattle.std.proofs.lemmas.List.{map_push}
use Rattle.commit_gate.specs.Views.{box_of, whole_box}
use Rattle.part_steps.specs.States.{state_of}
use Rattle.state_ledgers.proofs.LedgerShowsState.{one_more, boxes_push}
use Rattle.state_ledgers.proofs.streams.streams_of.Goals as goal

pub loop-target-preserved : goal.loop-target-preserved
loop-target-preserved c =
    let p = state_of c.args.state.now in
    let before = c.loop-target.streams.items in
    let one = c.in_ok-stream_to.field-0 in
    let made = c.in_ok-stream_to.ensures in
    let items = c.in_ok-push.ensures.items in
    let pushed = ap (map box_of) items ∙ map_push box_of before one in
    record {
      settled = one_more p.outboxes c.loop-target.target (map box_of c.push.new.self.items) (map box_of before) (box_of one) pushed c.loop-target.invariant.settled made.settled;
      whole = ap (map whole_box) items ∙ boxes_push before one c.loop-target.invariant.whole made.whole ∙ sym (ap (map box_of) items);
    }
