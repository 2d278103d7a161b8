use Rattle.std.proofs.Common.{◌≡◌, refl, sym, true, Some, subst, IfSome}
use Rattle.dura_value.specs.Ids.{Id}
use Rattle.shared_trees.specs.declared.keys.Key.{Key}
use Rattle.shared_trees.specs.Entries.{find, at_place}
use Rattle.shared_maps.specs.Digests.{hashed_place, is_id_place, task_place}
use Rattle.shared_trees.specs.Places.{place_of}
use Rattle.shared_maps.proofs.Listing.{id_added}
use Rattle.shared_maps.proofs.ordered_ids.OrderedIds.add.Goals as goal

-- what one key is to another
abbrev IsIdKey : Key → Key → Type 0
IsIdKey key one = (id : Id) × (place_of one ≡ task_place id 0) × (place_of key ≡ hashed_place id 0)

pub invariant_of-self : goal.invariant_of-self
invariant_of-self c =
    let one = subst (λ o. IfSome o (IsIdKey c.args.key.now)) c.in-Some.is c.in_ok-key.ensures.some in
    c.put.ensures.among is_id_place (subst (λ p. is_id_place p ≡ true) (sym one.1) refl) c.self.invariant

pub invariant_of-self-2 : goal.invariant_of-self-2
invariant_of-self-2 c =
    let one = subst (λ o. IfSome o (IsIdKey c.args.key.now)) c.in-Some.is c.in_ok-key.ensures.some in
    c.put.ensures.among is_id_place (subst (λ p. is_id_place p ≡ true) (sym one.1) refl) c.self.invariant

pub returns : goal.returns
returns c =
    let one = subst (λ o. IfSome o (IsIdKey c.args.key.now)) c.in-Some.is c.in_ok-key.ensures.some in
    id_added (find c.args.self.now) (find c.put.new.self) (place_of c.in-Some.key) (place_of c.args.key.now) tt one.0 one.1 one.2
    (subst (λ m. find c.put.new.self ≡ at_place (find m) (place_of c.in-Some.key) (Some tt)) c.self.view_is c.in_ok-put.ensures.put)
