use Rattle.std.proofs.Common.{◌≡◌, ap, refl, ◌∙◌, Some, subst}
use Rattle.std.proofs.lemmas.Result.{on_ok_weaker, on_err_weaker}
use Rattle.shared_trees.specs.Entries.{find, at_place}
use Rattle.shared_trees.specs.Places.{key_place, is_key_place}
use Rattle.shared_maps.proofs.Seen.{key_changes}
use Rattle.shared_maps.proofs.number_tree.NumberTree.put.Goals as goal

pub returns-clause-put : goal.returns-clause-put
returns-clause-put g c =
    on_ok_weaker c.put.result (λ changed.
    key_changes (find c.args.self.now) (find c.put.new.self) (key_place c.args.key) (Some c.args.value) c.args.key refl
    (subst (λ m. find c.put.new.self ≡ at_place (find m) (key_place c.args.key) (Some c.args.value)) c.self.view_is changed)) c.put.ensures.put

pub returns-clause-same : goal.returns-clause-same
returns-clause-same g c = on_err_weaker c.put.result (λ same. λ i key. (same ∙ ap find c.self.view_is) i (key_place key)) c.put.ensures.same

pub invariant_of-self : goal.invariant_of-self
invariant_of-self g c = c.put.ensures.among is_key_place refl c.self.invariant
