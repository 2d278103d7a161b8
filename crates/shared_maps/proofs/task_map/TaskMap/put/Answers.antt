use Rattle.std.proofs.Common.{◌≡◌, ap, refl, sym, true, ◌∙◌, Some, subst}
use Rattle.std.proofs.lemmas.Result.{on_ok_weaker, on_err_weaker}
use Rattle.dura_value.specs.Views.{id_of}
use Rattle.shared_trees.specs.Entries.{find, at_place}
use Rattle.shared_maps.specs.Digests.{task_place, is_task_place}
use Rattle.shared_trees.specs.Places.{place_of}
use Rattle.shared_maps.proofs.Seen.{task_changes}
use Rattle.shared_maps.proofs.task_map.TaskMap.put.Goals as goal

pub returns-clause-put : goal.returns-clause-put
returns-clause-put g c =
    on_ok_weaker c.put.result (λ changed.
    task_changes (find c.args.self.now) (find c.put.new.self) (place_of c.in_ok-key.key) (Some c.args.value) (id_of c.args.id) c.args.number c.in_ok-key.ensures
    (subst (λ m. find c.put.new.self ≡ at_place (find m) (place_of c.in_ok-key.key) (Some c.args.value)) c.self.view_is changed)) c.put.ensures.put

pub returns-clause-same : goal.returns-clause-same
returns-clause-same g c = on_err_weaker c.put.result (λ same. λ i id number. (same ∙ ap find c.self.view_is) i (task_place id number)) c.put.ensures.same

pub invariant_of-self : goal.invariant_of-self
invariant_of-self g c = c.put.ensures.among is_task_place (subst (λ p. is_task_place p ≡ true) (sym c.in_ok-key.ensures) refl) c.self.invariant
