use Rattle.std.proofs.Common.{◌≡◌, ap, refl, ◌∙◌, None, subst, true, sym}
use Rattle.std.proofs.lemmas.Result.{on_ok_weaker, on_err_weaker}
use Rattle.dura_value.specs.Views.{id_of}
use Rattle.shared_trees.specs.Entries.{find, at_place}
use Rattle.shared_maps.specs.Digests.{task_place, is_task_place}
use Rattle.shared_trees.specs.Places.{place_sought}
use Rattle.shared_maps.proofs.Seen.{task_changes}
use Rattle.shared_maps.proofs.task_map.TaskMap.take.Goals as goal

pub returns-clause-taken : goal.returns-clause-taken
returns-clause-taken g c =
    on_ok_weaker c.take.result (λ changed.
    task_changes (find c.args.self.now) (find c.take.new.self) (place_sought c.task_sought.result) None (id_of c.args.id.now) c.args.number c.task_sought.ensures
    (subst (λ m. find c.take.new.self ≡ at_place (find m) (place_sought c.task_sought.result) None) c.self.view_is changed)) c.take.ensures.taken

pub returns-clause-same : goal.returns-clause-same
returns-clause-same g c = on_err_weaker c.take.result (λ same. λ i id number. (same ∙ ap find c.self.view_is) i (task_place id number)) c.take.ensures.same

pub invariant_of-self : goal.invariant_of-self
invariant_of-self g c = c.take.ensures.among is_task_place (subst (λ p. is_task_place p ≡ true) (sym c.task_sought.ensures) refl) c.self.invariant
