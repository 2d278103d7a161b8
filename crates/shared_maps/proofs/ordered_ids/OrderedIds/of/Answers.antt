use Rattle.std.proofs.Common.{◌<◌, sym, subst}
use Rattle.shared_maps.specs.Maps.{has_id}
use Rattle.shared_maps.proofs.Listing.{is_left, none_listed, next_listed, all_listed, fewer_left, AreListed}
use Rattle.shared_maps.proofs.Passing.{count_at}
use Rattle.shared_maps.proofs.ordered_ids.OrderedIds.of.Goals as goal
use Rattle.shared_trees.specs.Entries.{find}
use Rattle.shared_trees.specs.Places.{place_of, place_sought}

pub loop-key-init : goal.loop-key-init
loop-key-init g c =
    let kept = find c.args.entries.now in
    subst (AreListed kept (has_id c.new-ids.result)) (sym c.behind-from.ensures) (none_listed kept (has_id c.new-ids.result) c.new-ids.ensures)

pub loop-key-preserved : goal.loop-key-preserved
loop-key-preserved g c =
    let kept = find c.args.entries.now in
    subst (AreListed kept (has_id c.add.new.self)) (sym c.behind_key-from.ensures)
    (next_listed kept (place_sought c.loop-key.from) (place_of c.in-Some.key.now) c.in-Some.field-0-1.now c.in-Some.ensures.first (has_id c.loop-key.ids) (has_id c.add.new.self) c.in_ok-add.ensures c.loop-key.invariant)

pub loop-key-smaller : goal.loop-key-smaller
loop-key-smaller g c =
    let entries = c.args.entries.now in
    let from = place_sought c.loop-key.from in
    subst (λ p. count_at (is_left p) entries < count_at (is_left from) entries) (sym c.behind_key-from.ensures)
    (fewer_left entries from (place_of c.in-Some.key.now) c.in-Some.field-0-1.now c.in-Some.ensures.first)

pub returns : goal.returns
returns g c = all_listed (find c.args.entries.now) (place_sought c.loop-key.from) (has_id c.loop-key.ids) c.in_default.ensures.none c.loop-key.invariant
