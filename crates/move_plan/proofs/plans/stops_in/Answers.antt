-- One entry more was read, or one is no stop.
use Rattle.std.proofs.Common.{◌≡◌, length, sym, ◌∙◌}
use Rattle.serde_json.specs.View.{items_view}
use Rattle.move_plan.specs.declared.error.Place.TheVariants as places
use Rattle.move_plan.specs.Entries.{stop_in}
use Rattle.move_plan.specs.Plans.{all_in}
use Rattle.move_plan.proofs.Lists.{all, begins, ends, goes_on}
use Rattle.move_plan.proofs.plans.stops_in.Goals as goal

pub loop-entry-init : goal.loop-entry-init
loop-entry-init c = rw c.new-stops.ensures.items (begins (all_in (stop_in c.args.nodes) (items_view c.args.entries.now)))

pub loop-entry-preserved : goal.loop-entry-preserved
loop-entry-preserved c =
    rw c.in_ok-push-in-Some.ensures.items (goes_on (stop_in c.args.nodes) _ c.loop-entry.stops.items c.args.entries.now c.loop-entry.entry-index c.entry-item.result c.in-Some.found c.loop-entry-test.true c.entry-item.is (sym c.in-Some.is ∙ c.stop_in.ensures) c.loop-entry.invariant)

pub returns-in-None : goal.returns-in-None
returns-in-None c =
    let counted : c.len.result ≡ length c.loop-entry.stops.items = c.len.ensures ∙ c.loop-entry.stops.ok.0 in
    rw counted (ends (stop_in c.args.nodes) places.Stop _ c.loop-entry.stops.items c.args.entries.now c.loop-entry.entry-index c.entry-item.result c.loop-entry-test.true c.entry-item.is (sym c.in-None.is ∙ c.stop_in.ensures) c.loop-entry.invariant)

pub returns : goal.returns
returns c = all (stop_in c.args.nodes) places.Stop c.loop-entry.stops.items c.args.entries.now c.loop-entry.entry-index c.loop-entry-test.false c.loop-entry.invariant
