use Rattle.std.proofs.Common.{arith}
use Rattle.node_core.proofs.Growing.{grows_on_then}
use Rattle.node_core.proofs.Steps.{then_all}
use Rattle.node_core.proofs.waves.settle_all.Goals as goal

pub returns-in_err-settle_part-clause-grows : goal.returns-in_err-settle_part-clause-grows
returns-in_err-settle_part-clause-grows g c = grows_on_then g.M.Picked.rules c.args.store.now c.parts.store c.settle_part.new.store c.parts.invariant.grows c.settle_part.ensures.grows

pub parts-preserved : goal.parts-preserved
parts-preserved g c =
    let inv = c.parts.invariant in
    let h = c.settle_part.ensures in
    let before = inv.few in
    let one = h.few in
    record {
      keeps = then_all c.args.store.now.logs c.parts.store.logs c.settle_part.new.store.logs inv.keeps h.keeps;
      grows = grows_on_then g.M.Picked.rules c.args.store.now c.parts.store c.settle_part.new.store inv.grows h.grows;
      few = omega (arith, before, one);
      running = c.in_ok-settle_part.ensures.running;
    }
