use Rattle.std.proofs.Common.{ap, sym, ◌∙◌, is_some}
use Rattle.shared_trees.specs.Entries.{find}
use Rattle.shared_trees.specs.Places.{place_of, key_place, is_key_place}
use Rattle.shared_trees.proofs.Firsts.{of_found}
use Rattle.shared_maps.proofs.Seen.{key_alone}
use Rattle.shared_maps.proofs.number_tree.NumberTree.next.Goals as goal

pub returns-in-Some-clause-there : goal.returns-in-Some-clause-there
returns-in-Some-clause-there g c =
    let es = c.self.inside.entries in
    let place = place_of c.in-Some.key.now in
    let found = c.in-Some.ensures.first.found in
    let alone = key_alone place (of_found is_key_place es place c.self.invariant (ap is_some found)) in
    ap (λ m. find m (key_place c.in-Some.key.now.lead)) (sym c.self.view_is) ∙ ap (find es) (sym alone) ∙ found
