use Rattle.std.proofs.Common.{[], arith}
use Rattle.cell_steps.proofs.Filled.{looks_still, looks_more}
use Rattle.cell_steps.proofs.filling.fire_due.Goals as goal

pub fires-init : goal.fires-init
fires-init g c = record {
  way = c.requires.way;
  on = λ waits. looks_still (g.R.Reactions.flows c.args.reactions.now) c.args.now c.args.filling waits c.requires.way;
  few = omega arith;
}

pub fires-preserved : goal.fires-preserved
fires-preserved g c =
    let flows = g.R.Reactions.flows c.args.reactions.now in
    let one = c.in_ok-filling.ensures.one in
    let room = c.fires-test.true in
    let long = c.len.ensures in
    let before = c.fires.invariant.few in
    record {
      way = (c.in_ok-filling.ensures.on []).on.way;
      on = looks_more flows c.args.now c.args.filling c.fires.filling c.in_ok-filling.filling c.fires.invariant.on c.in_ok-filling.ensures.on;
      few = omega (arith, one, room, long, before);
    }
