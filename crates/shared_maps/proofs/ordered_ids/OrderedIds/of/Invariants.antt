use Rattle.shared_maps.specs.Maps.{has_id}
use Rattle.shared_maps.proofs.Listing.{is_left, AreListed}
use Rattle.shared_maps.proofs.Passing.{count_at}
use Rattle.shared_maps.proofs.ordered_ids.OrderedIds.of.Given as goal
use Rattle.shared_trees.specs.Entries.{find}
use Rattle.shared_trees.specs.Places.{place_sought}

-- just the ids up to here are listed
abbrev pub invariant-loop-key : goal.invariant-loop-key
invariant-loop-key g l = AreListed (find l.entries) (has_id l.ids) (place_sought l.from)

abbrev pub decreases-loop-key : goal.decreases-loop-key
decreases-loop-key g l = count_at (is_left (place_sought l.from)) l.entries
