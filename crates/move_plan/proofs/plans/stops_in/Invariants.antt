-- The entries that are still to be read lead on to all of them.
use Rattle.std.proofs.Common.{◌≡◌, drop}
use Rattle.serde_json.specs.View.{items_view}
use Rattle.move_plan.specs.Entries.{stop_in}
use Rattle.move_plan.specs.Plans.{all_in}
use Rattle.move_plan.proofs.Lists.{behind}
use Rattle.move_plan.proofs.plans.stops_in.Given as goal

abbrev pub invariant-loop-entry : goal.invariant-loop-entry
invariant-loop-entry l = behind l.stops.items (all_in (stop_in l.nodes) (items_view (drop l.entry-index l.entries))) ≡ all_in (stop_in l.nodes) (items_view l.entries)
