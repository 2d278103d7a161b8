use Rattle.std.proofs.Common.{◌≡◌, ap, refl, ◌∙◌, None, subst, true, sym}
use Rattle.dura_value.specs.Views.{id_of}
use Rattle.shared_trees.specs.Entries.{find, at_place}
use Rattle.shared_maps.specs.Digests.{time_place, is_time_place}
use Rattle.shared_trees.specs.Places.{place_sought}
use Rattle.shared_maps.proofs.Seen.{time_changes}
use Rattle.shared_maps.proofs.Times.{on_any_err}
use Rattle.shared_maps.proofs.time_map.TimeMap.remove.Goals as goal

pub returns-clause-removed : goal.returns-clause-removed
returns-clause-removed g c =
    time_changes (find c.args.self.now) (find c.take.new.self) (place_sought c.time_sought.result) None c.args.time (id_of c.args.id.now) c.args.number c.time_sought.ensures
    (subst (λ m. find c.take.new.self ≡ at_place (find m) (place_sought c.time_sought.result) None) c.self.view_is c.in_ok-gone.ensures.taken)

pub returns-in_err-gone-clause-same : goal.returns-in_err-gone-clause-same
returns-in_err-gone-clause-same g c = on_any_err c.from_residual.result (λ i time id number. (c.in_err-gone.ensures.same ∙ ap find c.self.view_is) i (time_place time id number))

pub invariant_of-self : goal.invariant_of-self
invariant_of-self g c = c.take.ensures.among is_time_place (subst (λ p. is_time_place p ≡ true) (sym c.time_sought.ensures) refl) c.self.invariant

pub invariant_of-self-2 : goal.invariant_of-self-2
invariant_of-self-2 g c = c.take.ensures.among is_time_place (subst (λ p. is_time_place p ≡ true) (sym c.time_sought.ensures) refl) c.self.invariant
