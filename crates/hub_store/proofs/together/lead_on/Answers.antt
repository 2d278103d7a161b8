use Rattle.std.proofs.Common.{subst, refl, arith}
use Rattle.hub_store.specs.declared.way.Way.{Way}
use Rattle.hub_store.specs.Waiting.{IsBehind}
use Rattle.hub_store.proofs.Behind.{one_led, all_led}
use Rattle.hub_store.proofs.together.lead_on.Goals as goal

pub loop-place-init : goal.loop-place-init
loop-place-init c = record { count = refl; led = λ p low. absurd (omega (arith, low)); rest = λ p high. refl }

pub loop-place-preserved : goal.loop-place-preserved
loop-place-preserved c =
    let inv = c.loop-place.invariant in
    let below = c.loop-place-test.true in
    let long = c.len-place-end.ensures in
    one_led c.args.safe c.args.ways.now.items c.loop-place.ways.items c.take_way-way.new.ways.items c.put_way.new.ways.items c.loop-place.place c.behind.result inv (omega (arith, below, long, inv.count)) c.take_way-way.ensures.rest c.put_way.ensures
    (subst (λ (w : Way). IsBehind c.args.safe w c.behind.result) c.take_way-way.ensures.way c.behind.ensures)

pub returns : goal.returns
returns c =
    let inv = c.loop-place.invariant in
    let past = c.loop-place-test.false in
    let long = c.len-place-end.ensures in
    record { count = inv.count; each = all_led c.args.safe c.args.ways.now.items c.loop-place.ways.items c.loop-place.place inv (omega (arith, past, long)) }
