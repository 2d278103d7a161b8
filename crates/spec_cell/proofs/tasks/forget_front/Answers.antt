use Rattle.std.proofs.Common.{◌∙◌, List, sym, ap, arith}
use Rattle.cell_tasks.specs.Tasks.{is_out}
use Rattle.log_items.specs.Plain.{items_of}
use Rattle.log_items.specs.declared.items.Item.{Item}
use Rattle.spec_cell.specs.Tasks.{without_ended}
use Rattle.cell_steps.specs.declared.step.Step.{Step}
use Rattle.spec_cell.proofs.TasksOver.{settled_next}
use Rattle.spec_cell.proofs.tasks.forget_front.Goals as goal

pub loop-place-preserved : goal.loop-place-preserved
loop-place-preserved c =
    let inside = c.loop-place-test.true in
    let few = c.requires in
    settled_next (is_out c.args.given.now) (is_out c.loop-place.given) (is_out c.forget_all_ended.new.given) c.args.steps.now c.loop-place.place c.index-steps-place.result (omega (arith, inside, few)) c.index-steps-place.is c.loop-place.invariant
    (c.in_ok-forget_all_ended.ensures ∙ ap (λ (l : List Item). without_ended (is_out c.loop-place.given) (items_of l)) c.as_slice.ensures
    ∙ ap (λ (s : Step). without_ended (is_out c.loop-place.given) (items_of s.entry.items)) (sym c.index-steps-place.is))
