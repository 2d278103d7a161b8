use Rattle.std.proofs.Common.{◌≡◌, ap, subst, Some, None, is_some, option_map, rules}
use Rattle.dura_value.specs.Views.{id_of}
use Rattle.shared_maps.specs.Digests.{is_task_place}
use Rattle.shared_trees.specs.Entries.{find, IsFirstFrom, NoneFrom}
use Rattle.shared_trees.specs.Places.{place_of, place_sought}
use Rattle.shared_trees.proofs.Firsts.{of_found}
use Rattle.shared_maps.proofs.Tasks.{task_alone, never_alone, next_task, no_task}
use Rattle.shared_maps.proofs.task_map.TaskMap.next.Goals as goal

pub returns-in_default-clause-none : goal.returns-in_default-clause-none
returns-in_default-clause-none g c =
    let last = option_map (λ task. (id_of task.0.now, task.1)) c.args.last in
    let none = subst (λ m. NoneFrom (find m) (place_sought c.behind-from.result)) c.self.view_is c.in_default.ensures.none in
    no_task (find c.args.self.now) last (subst (NoneFrom (find c.args.self.now)) c.behind-from.ensures none)

pub returns-in_default-id-clause-none : goal.returns-in_default-id-clause-none
returns-in_default-id-clause-none g c =
    let place = place_of c.in-Some.key.now in
    let task = of_found is_task_place c.self.inside.entries place c.self.invariant (ap is_some c.in-Some.ensures.first.found) in
    let none : place.id ≡ None = search rules in
    absurd (never_alone place task none)

pub returns-clause-next : goal.returns-clause-next
returns-clause-next g c =
    let last = option_map (λ task. (id_of task.0.now, task.1)) c.args.last in
    let place = place_of c.in-Some.key.now in
    let x = c.in-Some.field-0-1.now in
    let task = of_found is_task_place c.self.inside.entries place c.self.invariant (ap is_some c.in-Some.ensures.first.found) in
    let id = c.in-Some-id.id.now in
    let ids : place.id ≡ Some id = search rules in
    let first = subst (λ m. IsFirstFrom (find m) (place_sought c.behind-from.result) place x) c.self.view_is c.in-Some.ensures.first in
    next_task (find c.args.self.now) last place x (id_of id) place.number (task_alone place id task ids) (subst (λ from. IsFirstFrom (find c.args.self.now) from place x) c.behind-from.ensures first)
