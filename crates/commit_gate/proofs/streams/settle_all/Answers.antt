use Rattle.std.proofs.Common.{◌∙◌, sym, ap, arith}
use Rattle.commit_gate.specs.Views.{box_of, whole_box}
use Rattle.commit_gate.proofs.Boxes.{box_kept, below_set, all_same}
use Rattle.std.proofs.lemmas.List.{length-set}
use Rattle.commit_gate.proofs.streams.settle_all.Goals as goal

pub loop-index-preserved : goal.loop-index-preserved
loop-index-preserved c =
    let inv = c.loop-index.invariant in
    let boxes = c.loop-index.boxes.items in
    let i = c.loop-index.index in
    let now = c.settle.new.self in
    record {
      shown = box_kept whole_box boxes i now c.index_mut.result.now (c.settle.ensures.whole ∙ ap whole_box c.index_mut.ensures.value) ∙ inv.shown;
      below = below_set box_of whole_box boxes i now (omega (arith, inv.count)) (c.settle.ensures.settled ∙ sym c.settle.ensures.whole) inv.below;
      count = length-set boxes i now ∙ inv.count;
    }

pub returns-clause-settled : goal.returns-clause-settled
returns-clause-settled c = all_same box_of whole_box c.loop-index.boxes.items (λ k low d. c.loop-index.invariant.below k (omega (arith, c.loop-index.invariant.count)) d) ∙ c.loop-index.invariant.shown
