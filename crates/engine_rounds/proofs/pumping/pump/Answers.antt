use Rattle.std.proofs.Common.{◌∙◌, Ok, Some, refl, ap, subst, arith}
use Rattle.engine_rounds.proofs.Adding.{adds_then}
use Rattle.engine_rounds.proofs.Given.{clock_not, clock_then}
use Rattle.engine_rounds.specs.Adding.{MayAdd}
use Rattle.hub_store.specs.Changes.{trail_in}
use Rattle.round_steps.proofs.Goes.{goes_not, goes_then}
use Rattle.engine_rounds.proofs.pumping.pump.Goals as goal

pub pushes-preserved : goal.pushes-preserved
pushes-preserved g c =
    let inv = c.pushes.invariant in
    let h = c.push_on.ensures in
    let none = subst (MayAdd (trail_in c.pushes.store.logs) (trail_in c.push_on.new.store.logs)) c.in_default.is c.in_ok-pumped.ensures.adds in
    record {
      goes = goes_then g.M.Picked.rules c.args.store.now c.pushes.store c.push_on.new.store inv.goes h.goes;
      serving = c.in_ok-pumped.ensures.serving;
      ticks = let one = inv.ticks in let two = h.ticks in omega (arith, one, two);
      latest = let one = inv.latest in let two = h.latest in omega (arith, one, two);
      counted = c.in_ok-pumped.ensures.counted;
      same = none ∙ inv.same;
      by_clock = clock_then g.M.Picked.rules c.args.pace.now.steps (g.C.Clock.given c.args.clock.now) (g.C.Clock.given c.pushes.clock) (g.C.Clock.given c.push_on.new.clock) c.args.store.now c.pushes.store c.push_on.new.store inv.by_clock h.by_clock;
      fewer = λ few. h.fewer (inv.fewer few);
      heard = λ low. h.heard (inv.heard low);
    }

pub returns-in_err-pumped-clause-by_clock : goal.returns-in_err-pumped-clause-by_clock
returns-in_err-pumped-clause-by_clock g c = clock_then g.M.Picked.rules c.args.pace.now.steps (g.C.Clock.given c.args.clock.now) (g.C.Clock.given c.pushes.clock) (g.C.Clock.given c.push_on.new.clock) c.args.store.now c.pushes.store c.push_on.new.store c.pushes.invariant.by_clock c.push_on.ensures.by_clock

pub returns-in-Some-clause-by_clock : goal.returns-in-Some-clause-by_clock
returns-in-Some-clause-by_clock g c = clock_then g.M.Picked.rules c.args.pace.now.steps (g.C.Clock.given c.args.clock.now) (g.C.Clock.given c.pushes.clock) (g.C.Clock.given c.push_on.new.clock) c.args.store.now c.pushes.store c.push_on.new.store c.pushes.invariant.by_clock c.push_on.ensures.by_clock

pub returns-in-Some-clause-rest : goal.returns-in-Some-clause-rest
returns-in-Some-clause-rest g c = λ same. c.push_on.ensures.rest (c.in_ok-pumped.was ∙ ap Ok (c.in-Some.is ∙ ap Some (cc same)))

pub returns-in-Some-clause-adds : goal.returns-in-Some-clause-adds
returns-in-Some-clause-adds g c =
    let adds = subst (MayAdd (trail_in c.pushes.store.logs) (trail_in c.push_on.new.store.logs)) c.in-Some.is c.in_ok-pumped.ensures.adds in
    adds_then (trail_in c.args.store.now.logs) (trail_in c.pushes.store.logs) (trail_in c.push_on.new.store.logs) c.in-Some.pumped c.pushes.invariant.same adds

pub returns-in_err-pumped-clause-goes : goal.returns-in_err-pumped-clause-goes
returns-in_err-pumped-clause-goes g c = goes_then g.M.Picked.rules c.args.store.now c.pushes.store c.push_on.new.store c.pushes.invariant.goes c.push_on.ensures.goes

pub returns-in-Some-clause-goes : goal.returns-in-Some-clause-goes
returns-in-Some-clause-goes g c = goes_then g.M.Picked.rules c.args.store.now c.pushes.store c.push_on.new.store c.pushes.invariant.goes c.push_on.ensures.goes

pub pushes-init : goal.pushes-init
pushes-init g c = record {
  goes = goes_not g.M.Picked.rules c.args.store.now;
  serving = c.requires.serving;
  ticks = omega arith;
  latest = omega arith;
  counted = c.requires.counted;
  same = refl;
  by_clock = clock_not g.M.Picked.rules c.args.pace.now.steps (g.C.Clock.given c.args.clock.now) c.args.store.now;
  fewer = λ few. few;
  heard = λ low. low;
}
