use Rattle.std.proofs.Common.{◌∙◌, sym}
use Rattle.hub_store.proofs.Bodies.{some_left, room_for}
use Rattle.hub_store.proofs.trail.settle_entries.Goals as goal

pub remove-entry-requires : goal.remove-entry-requires
remove-entry-requires c = some_left _ (sym c.is_empty.ensures ∙ c.loop-entries-test.true)

pub push_reserved-requires : goal.push_reserved-requires
push_reserved-requires c = room_for _ _ _ _ _ _ c.loop-entries.invariant.len c.loop-entries.invariant.capacity c.requires (some_left _ (sym c.is_empty.ensures ∙ c.loop-entries-test.true))
