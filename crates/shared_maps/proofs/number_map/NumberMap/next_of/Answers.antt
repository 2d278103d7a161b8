use Rattle.std.proofs.Common.{◌∙◌, sym, ap, subst, Some}
use Rattle.dura_value.specs.Views.{id_of}
use Rattle.shared_trees.specs.Ids.{key_of}
use Rattle.shared_maps.specs.Digests.{digest_of}
use Rattle.shared_trees.specs.Entries.{find, IsFirstFrom, NoneFrom}
use Rattle.shared_trees.specs.Places.{place_of, is_beside}
use Rattle.shared_maps.proofs.Numbers.{number_there, number_behind, number_least, none_beside, none_at}
use Rattle.shared_maps.proofs.number_map.NumberMap.next_of.Goals as goal

pub returns-then-is_beside-clause-there : goal.returns-then-is_beside-clause-there
returns-then-is_beside-clause-there g c =
    let id = id_of c.args.id.now in
    let p = place_of c.in-Some.key.now in
    let f = subst (λ from. IsFirstFrom (find c.args.self.now.entries) from p c.in-Some.field-0-1.now) c.hashed_sought-sought.ensures c.in-Some.ensures.first in
    let beside = ap (λ q. is_beside q p) (sym c.hashed_sought-sought.ensures) ∙ sym c.is_beside.ensures ∙ c.if-is_beside.true in
    number_there (digest_of id) (Some (key_of id)) (find c.args.self.now.entries) c.args.from p c.in-Some.field-0-1.now f beside

pub returns-then-is_beside-clause-behind : goal.returns-then-is_beside-clause-behind
returns-then-is_beside-clause-behind g c =
    let id = id_of c.args.id.now in
    let p = place_of c.in-Some.key.now in
    let f = subst (λ from. IsFirstFrom (find c.args.self.now.entries) from p c.in-Some.field-0-1.now) c.hashed_sought-sought.ensures c.in-Some.ensures.first in
    let beside = ap (λ q. is_beside q p) (sym c.hashed_sought-sought.ensures) ∙ sym c.is_beside.ensures ∙ c.if-is_beside.true in
    number_behind (digest_of id) (Some (key_of id)) (find c.args.self.now.entries) c.args.from p c.in-Some.field-0-1.now f beside

pub returns-then-is_beside-clause-least : goal.returns-then-is_beside-clause-least
returns-then-is_beside-clause-least g c =
    let id = id_of c.args.id.now in
    let p = place_of c.in-Some.key.now in
    let f = subst (λ from. IsFirstFrom (find c.args.self.now.entries) from p c.in-Some.field-0-1.now) c.hashed_sought-sought.ensures c.in-Some.ensures.first in
    let beside = ap (λ q. is_beside q p) (sym c.hashed_sought-sought.ensures) ∙ sym c.is_beside.ensures ∙ c.if-is_beside.true in
    number_least (digest_of id) (Some (key_of id)) (find c.args.self.now.entries) c.args.from p c.in-Some.field-0-1.now f beside

pub returns-else-is_beside-clause-none : goal.returns-else-is_beside-clause-none
returns-else-is_beside-clause-none g c =
    let id = id_of c.args.id.now in
    let p = place_of c.in-Some.key.now in
    let f = subst (λ from. IsFirstFrom (find c.args.self.now.entries) from p c.in-Some.field-0-1.now) c.hashed_sought-sought.ensures c.in-Some.ensures.first in
    let other = ap (λ q. is_beside q p) (sym c.hashed_sought-sought.ensures) ∙ sym c.is_beside.ensures ∙ c.if-is_beside.false in
    none_beside (digest_of id) (Some (key_of id)) (find c.args.self.now.entries) c.args.from p c.in-Some.field-0-1.now f other

pub returns-in_default-clause-none : goal.returns-in_default-clause-none
returns-in_default-clause-none g c =
    let id = id_of c.args.id.now in
    none_at (digest_of id) (Some (key_of id)) (find c.args.self.now.entries) c.args.from
    (subst (NoneFrom (find c.args.self.now.entries)) c.hashed_sought-sought.ensures c.in_default.ensures.none)
