use Rattle.std.proofs.Common.{ap, subst, is_some}
use Rattle.shared_maps.specs.Digests.{is_time_place}
use Rattle.shared_trees.specs.Entries.{find, IsFirstFrom, NoneFrom}
use Rattle.shared_trees.specs.Places.{place_of, place_sought}
use Rattle.shared_trees.proofs.Firsts.{of_found}
use Rattle.shared_maps.proofs.Times.{time_alone, first_time, no_time_at}
use Rattle.shared_maps.proofs.time_map.TimeMap.first.Goals as goal

pub returns-clause-first : goal.returns-clause-first
returns-clause-first g c =
    let place = place_of c.in-Some.field-0-0.now in
    let x = c.in-Some.value.now in
    let there = of_found is_time_place c.self.inside.entries place c.self.invariant (ap is_some c.in-Some.ensures.first.found) in
    let alone = time_alone place there in
    let from = subst (λ m. IsFirstFrom (find m) (place_sought c.behind-from.result) place x) c.self.view_is c.in-Some.ensures.first in
    let first = subst (λ p. IsFirstFrom (find c.args.self.now) p place x) c.behind-from.ensures from in
    let is = first_time (find c.args.self.now) place x place.lead alone.0 place.number alone.1 first in
    (place.lead, alone.0, place.number, is.0, is.1)

pub returns-in_default-clause-none : goal.returns-in_default-clause-none
returns-in_default-clause-none g c =
    let none = subst (λ m. NoneFrom (find m) (place_sought c.behind-from.result)) c.self.view_is c.in_default.ensures.none in
    no_time_at (find c.args.self.now) (subst (NoneFrom (find c.args.self.now)) c.behind-from.ensures none)
