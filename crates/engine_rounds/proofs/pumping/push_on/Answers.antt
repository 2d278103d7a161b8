use Rattle.engine_rounds.proofs.Given.{clock_goes, clock_then, clock_then_goes}
use Rattle.round_steps.proofs.Goes.{goes_then}
use Rattle.engine_rounds.proofs.pumping.push_on.Goals as goal

pub returns-in_err-turned-clause-by_clock : goal.returns-in_err-turned-clause-by_clock
returns-in_err-turned-clause-by_clock g c = clock_goes g.M.Picked.rules c.args.pace.now.steps (g.C.Clock.given c.args.clock.now) c.args.store.now c.push.new.store c.push.ensures.goes c.push.ensures.latest

pub returns-then-labels-gt0-clause-by_clock : goal.returns-then-labels-gt0-clause-by_clock
returns-then-labels-gt0-clause-by_clock g c = clock_goes g.M.Picked.rules c.args.pace.now.steps (g.C.Clock.given c.args.clock.now) c.args.store.now c.push.new.store c.push.ensures.goes c.push.ensures.latest

pub returns-then-has_lost_node-clause-by_clock : goal.returns-then-has_lost_node-clause-by_clock
returns-then-has_lost_node-clause-by_clock g c = clock_goes g.M.Picked.rules c.args.pace.now.steps (g.C.Clock.given c.args.clock.now) c.args.store.now c.push.new.store c.push.ensures.goes c.push.ensures.latest

pub returns-then-turned-clause-by_clock : goal.returns-then-turned-clause-by_clock
returns-then-turned-clause-by_clock g c = clock_goes g.M.Picked.rules c.args.pace.now.steps (g.C.Clock.given c.args.clock.now) c.args.store.now c.push.new.store c.push.ensures.goes c.push.ensures.latest

pub returns-then-holds_some-clause-goes : goal.returns-then-holds_some-clause-goes
returns-then-holds_some-clause-goes g c = goes_then g.M.Picked.rules c.args.store.now c.push.new.store c.give_up_seen.new.store (c.push.ensures.goes) c.give_up_seen.ensures.goes

pub returns-then-holds_some-clause-by_clock : goal.returns-then-holds_some-clause-by_clock
returns-then-holds_some-clause-by_clock g c = clock_then_goes g.M.Picked.rules c.args.pace.now.steps (g.C.Clock.given c.args.clock.now) (g.C.Clock.given c.args.clock.now) c.args.store.now c.push.new.store c.give_up_seen.new.store (clock_goes g.M.Picked.rules c.args.pace.now.steps (g.C.Clock.given c.args.clock.now) c.args.store.now c.push.new.store c.push.ensures.goes c.push.ensures.latest) c.give_up_seen.ensures.goes c.give_up_seen.ensures.latest

pub returns-clause-goes : goal.returns-clause-goes
returns-clause-goes g c = goes_then g.M.Picked.rules c.args.store.now c.push.new.store c.wait_on.new.store (c.push.ensures.goes) c.wait_on.ensures.goes

pub returns-clause-by_clock : goal.returns-clause-by_clock
returns-clause-by_clock g c = clock_then g.M.Picked.rules c.args.pace.now.steps (g.C.Clock.given c.args.clock.now) (g.C.Clock.given c.args.clock.now) (g.C.Clock.given c.wait_on.new.clock) c.args.store.now c.push.new.store c.wait_on.new.store (clock_goes g.M.Picked.rules c.args.pace.now.steps (g.C.Clock.given c.args.clock.now) c.args.store.now c.push.new.store c.push.ensures.goes c.push.ensures.latest) c.wait_on.ensures.by_clock
