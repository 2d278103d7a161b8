use Rattle.std.proofs.Common.{refl, ap}
use Rattle.cell_steps.specs.Possible.{timers_first}
use Rattle.cell_steps.proofs.turning.fill_first.Goals as goal

pub returns-in_ok-next-in-Timers-clause-own : goal.returns-in_ok-next-in-Timers-clause-own
returns-in_ok-next-in-Timers-clause-own g c = record {
  own = λ round_is possible. c.in_ok-next-in-Timers.ensures.own possible;
  timer = λ round_is due. c.in_ok-next-in-Timers.ensures.timer refl due;
}

pub returns-in_ok-next-in-Deliveries-clause-own : goal.returns-in_ok-next-in-Deliveries-clause-own
returns-in_ok-next-in-Deliveries-clause-own g c = record {
  own = λ round_is possible. c.in_ok-next-in-Deliveries.ensures.own possible;
  timer = λ round_is due. absurd (let other = ap timers_first c.in-Deliveries.is in cc (other, round_is));
}
