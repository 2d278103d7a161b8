use Rattle.part_items.specs.ItemFits.{FitsItem}
use Rattle.log_items.specs.Plain.{item_of}
use Rattle.cell_steps.proofs.Walks.{all_next_shown, all_whole_shown, all_at_shown}
use Rattle.cell_steps.proofs.filling.all_fit.Goals as goal

pub loop-item-preserved : goal.loop-item-preserved
loop-item-preserved c = all_next_shown item_of FitsItem c.args.items.now c.loop-item.item-index c.item-item.result c.loop-item-test.true c.item-item.is c.loop-item.invariant (c.item_fits.ensures.fits c.if-not-item_fits.false)

pub returns-then-not-item_fits-clause-misfit : goal.returns-then-not-item_fits-clause-misfit
returns-then-not-item_fits-clause-misfit c = λ _ all. c.item_fits.ensures.misfit c.if-not-item_fits.true (all_at_shown item_of FitsItem c.args.items.now c.loop-item.item-index c.item-item.result c.loop-item-test.true c.item-item.is all)

pub returns-clause-fits : goal.returns-clause-fits
returns-clause-fits c = λ _. all_whole_shown item_of FitsItem c.args.items.now c.loop-item.item-index c.loop-item-test.false c.loop-item.invariant
