use Rattle.std.proofs.Common.{◌∙◌, ℕ, take, sym, ap, arith}
use Rattle.std.proofs.lemmas.List.{take-map}
use Rattle.log_items.specs.Plain.{entry_of}
use Rattle.cell_steps.specs.declared.step.Step.{Step}
use Rattle.cell_steps.specs.Steps.{entries_in}
use Rattle.spec_cell.proofs.picking.copy_front.Goals as goal

pub returns : goal.returns
returns c =
    let end = c.loop-place-test.false in
    let low = c.loop-place.auto.place-end in
    c.loop-place.invariant ∙ sym (take-map (λ (s : Step). entry_of s.entry) c.loop-place.place c.args.steps.now) ∙ ap (λ (n : ℕ). take n (entries_in c.args.steps.now)) (omega (arith, end, low))
