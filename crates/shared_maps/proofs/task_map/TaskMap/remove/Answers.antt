use Rattle.std.proofs.Common.{◌≡◌, refl, None, subst, true, sym}
use Rattle.dura_value.specs.Views.{id_of}
use Rattle.shared_trees.specs.Entries.{find, at_place}
use Rattle.shared_maps.specs.Digests.{is_task_place}
use Rattle.shared_trees.specs.Places.{place_sought}
use Rattle.shared_maps.proofs.Seen.{task_changes}
use Rattle.shared_maps.proofs.task_map.TaskMap.remove.Goals as goal

pub returns : goal.returns
returns g c =
    task_changes (find c.args.self.now) (find c.take.new.self) (place_sought c.task_sought.result) None (id_of c.args.id.now) c.args.number c.task_sought.ensures
    (subst (λ m. find c.take.new.self ≡ at_place (find m) (place_sought c.task_sought.result) None) c.self.view_is c.in_ok-gone.ensures.taken)

pub invariant_of-self : goal.invariant_of-self
invariant_of-self g c = c.take.ensures.among is_task_place (subst (λ p. is_task_place p ≡ true) (sym c.task_sought.ensures) refl) c.self.invariant

pub invariant_of-self-2 : goal.invariant_of-self-2
invariant_of-self-2 g c = c.take.ensures.among is_task_place (subst (λ p. is_task_place p ≡ true) (sym c.task_sought.ensures) refl) c.self.invariant
