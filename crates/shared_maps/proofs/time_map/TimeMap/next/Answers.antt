use Rattle.std.proofs.Common.{◌≡◌, ap, subst, Some, None, is_some, option_map, rules}
use Rattle.dura_value.specs.Views.{id_of}
use Rattle.shared_maps.specs.Digests.{is_time_place}
use Rattle.shared_trees.specs.Entries.{find, IsFirstFrom, NoneFrom}
use Rattle.shared_trees.specs.Places.{place_of, place_sought}
use Rattle.shared_trees.proofs.Firsts.{of_found}
use Rattle.shared_maps.proofs.Times.{time_there, never_without_id, next_time, no_time_behind}
use Rattle.shared_maps.proofs.time_map.TimeMap.next.Goals as goal

pub returns-in_default-clause-none : goal.returns-in_default-clause-none
returns-in_default-clause-none g c =
    let last = option_map (λ at. (at.0, id_of at.1.now, at.2)) c.args.last in
    let none = subst (λ m. NoneFrom (find m) (place_sought c.behind-from.result)) c.self.view_is c.in_default.ensures.none in
    no_time_behind (find c.args.self.now) last (subst (NoneFrom (find c.args.self.now)) c.behind-from.ensures none)

pub returns-in_default-id-clause-none : goal.returns-in_default-id-clause-none
returns-in_default-id-clause-none g c =
    let place = place_of c.in-Some.key.now in
    let timed = of_found is_time_place c.self.inside.entries place c.self.invariant (ap is_some c.in-Some.ensures.first.found) in
    let none : place.id ≡ None = search rules in
    absurd (never_without_id place timed none)

pub returns-clause-next : goal.returns-clause-next
returns-clause-next g c =
    let last = option_map (λ at. (at.0, id_of at.1.now, at.2)) c.args.last in
    let place = place_of c.in-Some.key.now in
    let x = c.in-Some.field-0-1.now in
    let id = c.in-Some-id.id.now in
    let ids : place.id ≡ Some id = search rules in
    let first = subst (λ m. IsFirstFrom (find m) (place_sought c.behind-from.result) place x) c.self.view_is c.in-Some.ensures.first in
    next_time (find c.args.self.now) last place x (place.lead, id_of id, place.number) (time_there place id ids) (subst (λ from. IsFirstFrom (find c.args.self.now) from place x) c.behind-from.ensures first)
