use Rattle.std.proofs.Common.{◌∙◌, sym, ap, arith}
use Rattle.commit_gate.specs.Views.{box_of, whole_box}
use Rattle.commit_gate.proofs.Boxes.{box_kept, below_set, all_same}
use Rattle.std.proofs.lemmas.List.{length-set}
use Rattle.commit_gate.proofs.streams.drop_all.Goals as goal

pub loop-index-preserved : goal.loop-index-preserved
loop-index-preserved c =
    let inv = c.loop-index.invariant in
    let boxes = c.loop-index.boxes.items in
    let i = c.loop-index.index in
    let now = c.drop_frame.new.self in
    record {
      shown = box_kept box_of boxes i now c.index_mut.result.now (c.drop_frame.ensures.settled ∙ ap box_of c.index_mut.ensures.value) ∙ inv.shown;
      below = below_set whole_box box_of boxes i now (omega (arith, inv.count)) (c.drop_frame.ensures.whole ∙ sym c.drop_frame.ensures.settled) inv.below;
      count = length-set boxes i now ∙ inv.count;
    }

pub returns-clause-whole : goal.returns-clause-whole
returns-clause-whole c = all_same whole_box box_of c.loop-index.boxes.items (λ k low d. c.loop-index.invariant.below k (omega (arith, c.loop-index.invariant.count)) d) ∙ c.loop-index.invariant.shown
