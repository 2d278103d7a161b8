use Rattle.std.proofs.Common.{◌≡◌, ◌∙◌, ap, sym, Some, false, rules}
use Rattle.std.specs.Ordering.{is_eq}
use Rattle.shared_trees.specs.Places.{place_cmp, place_of}
use Rattle.shared_maps.proofs.Listing.{not_hashed}
use Rattle.shared_maps.proofs.ordered_ids.id_key.Goals as goal

pub returns-then-not-is_eq-clause-none : goal.returns-then-not-is_eq-clause-none
returns-then-not-is_eq-clause-none c =
    let key = place_of c.args.key.now in
    let id = c.deref-id.result.now in
    let ids : key.id ≡ Some id = search rules in
    let off : is_eq c.compare.result ≡ false = search rules in
    not_hashed key id ids (ap (λ p. is_eq (place_cmp p key)) (sym c.hashed_sought.ensures) ∙ ap is_eq (sym c.compare.ensures) ∙ off)
