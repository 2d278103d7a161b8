use Rattle.std.proofs.Common.{◌≡◌, List, Err, ap, subst, sym, arith}
use Rattle.hub_store.specs.Trail.{Settled}
use Rattle.round_steps.specs.Labels.{AreFew, IsCounted}
use Rattle.engine_rounds.proofs.Given.{clock_goes, clock_then}
use Rattle.node_core.specs.declared.halt.Halt.{Halt}
use Rattle.node_core.specs.declared.halt.Halt.TheVariants as halts
use Rattle.round_steps.proofs.Goes.{goes_then}
use Rattle.engine_rounds.proofs.driving.drive.Goals as goal

pub rounds-preserved : goal.rounds-preserved
rounds-preserved g c =
    let inv = c.rounds.invariant in
    let h = c.go_on.ensures in
    record {
      goes = goes_then g.M.Picked.rules c.args.store.now c.rounds.store c.go_on.new.store inv.goes h.goes;
      serving = c.in-Ok-None.ensures.serving;
      counted = c.in-Ok-None.ensures.counted;
      ticks = let one = inv.ticks in let two = h.ticks in omega (arith, one, two);
      latest = let one = inv.latest in let two = h.latest in omega (arith, one, two);
      by_clock = clock_then g.M.Picked.rules c.args.pace.now.steps (g.C.Clock.given c.args.clock.now) (g.C.Clock.given c.rounds.clock) (g.C.Clock.given c.go_on.new.clock) c.args.store.now c.rounds.store c.go_on.new.store inv.by_clock h.by_clock;
      fewer = λ few. h.fewer (inv.fewer few);
      heard = λ low. h.heard (inv.heard low);
    }

pub returns-in-Err-clause-by_clock : goal.returns-in-Err-clause-by_clock
returns-in-Err-clause-by_clock g c = clock_then g.M.Picked.rules c.args.pace.now.steps (g.C.Clock.given c.args.clock.now) (g.C.Clock.given c.rounds.clock) (g.C.Clock.given c.go_on.new.clock) c.args.store.now c.rounds.store c.go_on.new.store c.rounds.invariant.by_clock c.go_on.ensures.by_clock

pub returns-in-Ok-Some-clause-by_clock : goal.returns-in-Ok-Some-clause-by_clock
returns-in-Ok-Some-clause-by_clock g c = clock_then g.M.Picked.rules c.args.pace.now.steps (g.C.Clock.given c.args.clock.now) (g.C.Clock.given c.rounds.clock) (g.C.Clock.given c.go_on.new.clock) c.args.store.now c.rounds.store c.go_on.new.store c.rounds.invariant.by_clock c.go_on.ensures.by_clock

pub returns-in-Err-clause-whole : goal.returns-in-Err-clause-whole
returns-in-Err-clause-whole g c = λ apart. c.go_on.ensures.whole (λ same. let is : c.in-Err.halt ≡ halts.SayFault = cc (same, c.in-Err.is) in apart (ap (λ (h : Halt). Err h) is))

pub returns-in-Ok-Some-clause-goes : goal.returns-in-Ok-Some-clause-goes
returns-in-Ok-Some-clause-goes g c = goes_then g.M.Picked.rules c.args.store.now c.rounds.store c.go_on.new.store c.rounds.invariant.goes c.go_on.ensures.goes

pub returns-in-Err-clause-goes : goal.returns-in-Err-clause-goes
returns-in-Err-clause-goes g c = goes_then g.M.Picked.rules c.args.store.now c.rounds.store c.go_on.new.store c.rounds.invariant.goes c.go_on.ensures.goes

pub returns-in_err-serve_all-clause-by_clock : goal.returns-in_err-serve_all-clause-by_clock
returns-in_err-serve_all-clause-by_clock g c = clock_goes g.M.Picked.rules c.args.pace.now.steps (g.C.Clock.given c.args.clock.now) c.args.store.now c.serve_all.new.store c.serve_all.ensures.goes c.serve_all.ensures.latest

pub rounds-init : goal.rounds-init
rounds-init g c =
    let h = c.serve_all.ensures in
    record {
      goes = h.goes;
      counted = subst (λ (t : List Settled). IsCounted c.args.course.now.seen t) (sym h.trail) c.requires.counted;
      serving = c.in_ok-serve_all.ensures.serving;
      ticks = omega arith;
      latest = omega arith;
      by_clock = clock_goes g.M.Picked.rules c.args.pace.now.steps (g.C.Clock.given c.args.clock.now) c.args.store.now c.serve_all.new.store c.serve_all.ensures.goes c.serve_all.ensures.latest;
      fewer = λ few. subst (AreFew g.M.Picked.rules c.args.pace.now.steps) (sym h.trail) few;
      heard = λ low. let same = h.latest in omega (arith, low, same);
    }
