use Rattle.std.proofs.Common.{◌∙◌, sym, ap, subst, Some}
use Rattle.dura_value.specs.Views.{id_of}
use Rattle.shared_trees.specs.Ids.{key_of}
use Rattle.shared_trees.specs.Entries.{find, IsFirstFrom, NoneFrom}
use Rattle.shared_trees.specs.Places.{place_of, place_sought, is_beside}
use Rattle.shared_maps.proofs.Numbers.{number_there, number_behind, number_least, none_beside, none_at}
use Rattle.shared_maps.proofs.task_map.TaskMap.next_of.Goals as goal

pub returns-then-is_beside-clause-there : goal.returns-then-is_beside-clause-there
returns-then-is_beside-clause-there g c =
    let id = id_of c.args.id.now in
    let p = place_of c.in-Some.key.now in
    let f = subst (λ from. IsFirstFrom (find c.args.self.now) from p c.in-Some.field-0-1.now) c.task_sought-sought.ensures (subst (λ m. IsFirstFrom (find m) (place_sought c.task_sought-sought.result) p c.in-Some.field-0-1.now) c.self.view_is c.in-Some.ensures.first) in
    let beside = ap (λ q. is_beside q p) (sym c.task_sought-sought.ensures) ∙ sym c.is_beside.ensures ∙ c.if-is_beside.true in
    number_there 0 (Some (key_of id)) (find c.args.self.now) c.args.from p c.in-Some.field-0-1.now f beside

pub returns-then-is_beside-clause-behind : goal.returns-then-is_beside-clause-behind
returns-then-is_beside-clause-behind g c =
    let id = id_of c.args.id.now in
    let p = place_of c.in-Some.key.now in
    let f = subst (λ from. IsFirstFrom (find c.args.self.now) from p c.in-Some.field-0-1.now) c.task_sought-sought.ensures (subst (λ m. IsFirstFrom (find m) (place_sought c.task_sought-sought.result) p c.in-Some.field-0-1.now) c.self.view_is c.in-Some.ensures.first) in
    let beside = ap (λ q. is_beside q p) (sym c.task_sought-sought.ensures) ∙ sym c.is_beside.ensures ∙ c.if-is_beside.true in
    number_behind 0 (Some (key_of id)) (find c.args.self.now) c.args.from p c.in-Some.field-0-1.now f beside

pub returns-then-is_beside-clause-least : goal.returns-then-is_beside-clause-least
returns-then-is_beside-clause-least g c =
    let id = id_of c.args.id.now in
    let p = place_of c.in-Some.key.now in
    let f = subst (λ from. IsFirstFrom (find c.args.self.now) from p c.in-Some.field-0-1.now) c.task_sought-sought.ensures (subst (λ m. IsFirstFrom (find m) (place_sought c.task_sought-sought.result) p c.in-Some.field-0-1.now) c.self.view_is c.in-Some.ensures.first) in
    let beside = ap (λ q. is_beside q p) (sym c.task_sought-sought.ensures) ∙ sym c.is_beside.ensures ∙ c.if-is_beside.true in
    number_least 0 (Some (key_of id)) (find c.args.self.now) c.args.from p c.in-Some.field-0-1.now f beside

pub returns-else-is_beside-clause-none : goal.returns-else-is_beside-clause-none
returns-else-is_beside-clause-none g c =
    let id = id_of c.args.id.now in
    let p = place_of c.in-Some.key.now in
    let f = subst (λ from. IsFirstFrom (find c.args.self.now) from p c.in-Some.field-0-1.now) c.task_sought-sought.ensures (subst (λ m. IsFirstFrom (find m) (place_sought c.task_sought-sought.result) p c.in-Some.field-0-1.now) c.self.view_is c.in-Some.ensures.first) in
    let other = ap (λ q. is_beside q p) (sym c.task_sought-sought.ensures) ∙ sym c.is_beside.ensures ∙ c.if-is_beside.false in
    none_beside 0 (Some (key_of id)) (find c.args.self.now) c.args.from p c.in-Some.field-0-1.now f other

pub returns-in_default-clause-none : goal.returns-in_default-clause-none
returns-in_default-clause-none g c =
    let id = id_of c.args.id.now in
    none_at 0 (Some (key_of id)) (find c.args.self.now) c.args.from
    (subst (NoneFrom (find c.args.self.now)) c.task_sought-sought.ensures (subst (λ m. NoneFrom (find m) (place_sought c.task_sought-sought.result)) c.self.view_is c.in_default.ensures.none))
