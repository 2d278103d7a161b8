use Rattle.std.proofs.Common.{◌≡◌, ap, refl, ◌∙◌, None, subst, true, sym}
use Rattle.std.proofs.lemmas.Result.{on_ok_weaker, on_err_weaker}
use Rattle.shared_trees.specs.Entries.{find, at_place}
use Rattle.shared_trees.specs.Places.{key_place, is_key_place, place_sought}
use Rattle.shared_maps.proofs.Seen.{key_changes}
use Rattle.shared_maps.proofs.number_tree.NumberTree.take.Goals as goal

pub returns-clause-taken : goal.returns-clause-taken
returns-clause-taken g c =
    on_ok_weaker c.take.result (λ changed.
    key_changes (find c.args.self.now) (find c.take.new.self) (place_sought c.sought.result) None c.args.key c.sought.ensures
    (subst (λ m. find c.take.new.self ≡ at_place (find m) (place_sought c.sought.result) None) c.self.view_is changed)) c.take.ensures.taken

pub returns-clause-same : goal.returns-clause-same
returns-clause-same g c = on_err_weaker c.take.result (λ same. λ i key. (same ∙ ap find c.self.view_is) i (key_place key)) c.take.ensures.same

pub invariant_of-self : goal.invariant_of-self
invariant_of-self g c = c.take.ensures.among is_key_place (subst (λ p. is_key_place p ≡ true) (sym c.sought.ensures) refl) c.self.invariant
