use Rattle.std.proofs.Common.{◌≡◌, ap, refl, sym, true, ◌∙◌, Some, subst}
use Rattle.std.proofs.lemmas.Result.{on_ok_weaker, on_err_weaker}
use Rattle.dura_value.specs.Views.{id_of}
use Rattle.shared_trees.specs.Entries.{find, at_place}
use Rattle.shared_maps.specs.Digests.{time_place, is_time_place}
use Rattle.shared_trees.specs.Places.{place_of}
use Rattle.shared_maps.proofs.Seen.{time_changes}
use Rattle.shared_maps.proofs.time_map.TimeMap.put.Goals as goal

pub returns-clause-put : goal.returns-clause-put
returns-clause-put g c =
    on_ok_weaker c.put.result (λ changed.
    time_changes (find c.args.self.now) (find c.put.new.self) (place_of c.in_ok-key.key) (Some c.args.value) c.args.time (id_of c.args.id) c.args.number c.in_ok-key.ensures
    (subst (λ m. find c.put.new.self ≡ at_place (find m) (place_of c.in_ok-key.key) (Some c.args.value)) c.self.view_is changed)) c.put.ensures.put

pub returns-clause-same : goal.returns-clause-same
returns-clause-same g c = on_err_weaker c.put.result (λ same. λ i time id number. (same ∙ ap find c.self.view_is) i (time_place time id number)) c.put.ensures.same

pub invariant_of-self : goal.invariant_of-self
invariant_of-self g c = c.put.ensures.among is_time_place (subst (λ p. is_time_place p ≡ true) (sym c.in_ok-key.ensures) refl) c.self.invariant
