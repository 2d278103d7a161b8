use Rattle.std.proofs.Common.{◌≡◌, ◌∙◌, ◌+◌, drop, map, ap, sym, subst}
use Rattle.std.proofs.lemmas.List.{at_drop_all}
use Rattle.dura_value.specs.Views.{spots_of}
use Rattle.flow_syntax.specs.Views.{locked_of}
use Rattle.flow_syntax.specs.Machine.{eval_spots}
use Rattle.flow_machine.specs.Views.{machine_of}
use Rattle.flow_messages.proofs.AllValues.{behind, nothing_behind}
use Rattle.flow_machine.proofs.AllSpots.{none_left, one_spot, one_failed}
use Rattle.flow_machine.proofs.machine.Machine.spots.Goals as goal

pub loop-one-preserved : goal.loop-one-preserved
loop-one-preserved c =
    let variables = (machine_of c.args.self.now).variables in
    let total = eval_spots variables (map locked_of c.args.entities.now) in
    let rest = eval_spots variables (map locked_of (drop (c.loop-one.one-index + 1) c.args.entities.now)) in
    subst (λ ss. behind (spots_of ss) rest ≡ total) (sym c.in_ok-push-in-Ok.ensures.items)
    (one_spot variables c.loop-one.spots.items c.args.entities.now c.loop-one.one-index c.one-item.result c.in-Ok.spot total c.loop-one-test.true c.one-item.is c.in-Ok.ensures c.loop-one.invariant)

pub returns-in-Err : goal.returns-in-Err
returns-in-Err c =
    let variables = (machine_of c.args.self.now).variables in
    one_failed c.in-Err.error variables (spots_of c.loop-one.spots.items) c.args.entities.now c.loop-one.one-index c.one-item.result (eval_spots variables (map locked_of c.args.entities.now)) c.loop-one-test.true c.one-item.is c.in-Err.ensures c.loop-one.invariant

pub returns : goal.returns
returns c =
    let variables = (machine_of c.args.self.now).variables in
    let spots = spots_of c.loop-one.spots.items in
    sym c.loop-one.invariant
    ∙ at_drop_all (λ es. behind spots (eval_spots variables (map locked_of es))) c.args.entities.now c.loop-one.one-index c.loop-one-test.false
    ∙ none_left variables spots

pub loop-one-init : goal.loop-one-init
loop-one-init c =
    let total = eval_spots (machine_of c.args.self.now).variables (map locked_of c.args.entities.now) in
    ap (λ ss. behind (spots_of ss) total) c.in_ok-spots.ensures.items ∙ nothing_behind total
