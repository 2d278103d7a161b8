use Rattle.std.proofs.Common.{◌≡◌, ap, subst, Some, None, is_some, option_map, rules}
use Rattle.std.proofs.lemmas.Bool.{and_parts}
use Rattle.dura_value.specs.Views.{id_of}
use Rattle.shared_maps.specs.Digests.{is_id_place, is_task_place}
use Rattle.shared_trees.specs.Entries.{find, IsFirstFrom, NoneFrom}
use Rattle.shared_trees.specs.Places.{place_of, place_sought}
use Rattle.shared_trees.proofs.Firsts.{of_found}
use Rattle.shared_maps.proofs.Listing.{id_alone, next_id, no_id}
use Rattle.shared_maps.proofs.Tasks.{never_alone}
use Rattle.shared_maps.proofs.ordered_ids.OrderedIds.next.Goals as goal

pub returns-in_default-clause-none : goal.returns-in_default-clause-none
returns-in_default-clause-none c =
    let last = option_map (λ id. id_of id.now) c.args.last in
    let none = subst (λ m. NoneFrom (find m) (place_sought c.behind-from.result)) c.self.view_is c.in_default.ensures.none in
    no_id (find c.args.self.now) last (subst (NoneFrom (find c.args.self.now)) c.behind-from.ensures none)

pub returns-in_default-id-clause-none : goal.returns-in_default-id-clause-none
returns-in_default-id-clause-none c =
    let place = place_of c.in-Some.key.now in
    let there = of_found is_id_place c.self.inside.entries place c.self.invariant (ap is_some c.in-Some.ensures.first.found) in
    let none : place.id ≡ None = search rules in
    absurd (never_alone place (and_parts (is_task_place place) _ there).0 none)

pub returns-clause-next : goal.returns-clause-next
returns-clause-next c =
    let last = option_map (λ id. id_of id.now) c.args.last in
    let place = place_of c.in-Some.key.now in
    let x = c.in-Some.field-0-1.now in
    let there = of_found is_id_place c.self.inside.entries place c.self.invariant (ap is_some c.in-Some.ensures.first.found) in
    let id = c.in-Some-id.id.now in
    let ids : place.id ≡ Some id = search rules in
    let first = subst (λ m. IsFirstFrom (find m) (place_sought c.behind-from.result) place x) c.self.view_is c.in-Some.ensures.first in
    next_id (find c.args.self.now) last place x (id_of id) (id_alone place id there ids) (subst (λ from. IsFirstFrom (find c.args.self.now) from place x) c.behind-from.ensures first)
