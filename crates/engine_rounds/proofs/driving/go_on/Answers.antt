use Rattle.std.proofs.Common.{◌∙◌, Ok, ap}
use Rattle.engine_rounds.proofs.Given.{clock_goes, clock_not, clock_then, clock_then_goes}
use Rattle.round_steps.proofs.Goes.{goes_then}
use Rattle.engine_rounds.proofs.driving.go_on.Goals as goal

pub returns-in-Rest-clause-ends : goal.returns-in-Rest-clause-ends
returns-in-Rest-clause-ends g c = c.pump.ensures.rest (c.in_ok-pump.was ∙ ap Ok c.in-Rest.is)

pub returns-then-pace-course-clause-by_clock : goal.returns-then-pace-course-clause-by_clock
returns-then-pace-course-clause-by_clock g c = clock_not g.M.Picked.rules c.args.pace.now.steps (g.C.Clock.given c.args.clock.now) c.args.store.now

pub returns-in_err-give_up-clause-by_clock : goal.returns-in_err-give_up-clause-by_clock
returns-in_err-give_up-clause-by_clock g c = clock_goes g.M.Picked.rules c.args.pace.now.steps (g.C.Clock.given c.args.clock.now) c.args.store.now c.give_up.new.store c.give_up.ensures.goes c.give_up.ensures.latest

pub returns-then-holds_some-clause-by_clock : goal.returns-then-holds_some-clause-by_clock
returns-then-holds_some-clause-by_clock g c = clock_goes g.M.Picked.rules c.args.pace.now.steps (g.C.Clock.given c.args.clock.now) c.args.store.now c.give_up.new.store c.give_up.ensures.goes c.give_up.ensures.latest

pub returns-in_err-give_up-2-clause-goes : goal.returns-in_err-give_up-2-clause-goes
returns-in_err-give_up-2-clause-goes g c = goes_then g.M.Picked.rules c.args.store.now c.go_round.new.store c.give_up-2.new.store (c.go_round.ensures.goes) c.give_up-2.ensures.goes

pub returns-in_err-give_up-2-clause-by_clock : goal.returns-in_err-give_up-2-clause-by_clock
returns-in_err-give_up-2-clause-by_clock g c = clock_then_goes g.M.Picked.rules c.args.pace.now.steps (g.C.Clock.given c.args.clock.now) (g.C.Clock.given c.go_round.new.clock) c.args.store.now c.go_round.new.store c.give_up-2.new.store (c.go_round.ensures.by_clock) c.give_up-2.ensures.goes c.give_up-2.ensures.latest

pub returns-then-branch-2-clause-goes : goal.returns-then-branch-2-clause-goes
returns-then-branch-2-clause-goes g c = goes_then g.M.Picked.rules c.args.store.now c.go_round.new.store c.give_up-2.new.store (c.go_round.ensures.goes) c.give_up-2.ensures.goes

pub returns-then-branch-2-clause-by_clock : goal.returns-then-branch-2-clause-by_clock
returns-then-branch-2-clause-by_clock g c = clock_then_goes g.M.Picked.rules c.args.pace.now.steps (g.C.Clock.given c.args.clock.now) (g.C.Clock.given c.go_round.new.clock) c.args.store.now c.go_round.new.store c.give_up-2.new.store (c.go_round.ensures.by_clock) c.give_up-2.ensures.goes c.give_up-2.ensures.latest

pub returns-in_err-pump-clause-goes : goal.returns-in_err-pump-clause-goes
returns-in_err-pump-clause-goes g c = goes_then g.M.Picked.rules c.args.store.now c.give_up-2.new.store c.pump.new.store (goes_then g.M.Picked.rules c.args.store.now c.go_round.new.store c.give_up-2.new.store (c.go_round.ensures.goes) c.give_up-2.ensures.goes) c.pump.ensures.goes

pub returns-in_err-pump-clause-by_clock : goal.returns-in_err-pump-clause-by_clock
returns-in_err-pump-clause-by_clock g c = clock_then g.M.Picked.rules c.args.pace.now.steps (g.C.Clock.given c.args.clock.now) (g.C.Clock.given c.go_round.new.clock) (g.C.Clock.given c.pump.new.clock) c.args.store.now c.give_up-2.new.store c.pump.new.store (clock_then_goes g.M.Picked.rules c.args.pace.now.steps (g.C.Clock.given c.args.clock.now) (g.C.Clock.given c.go_round.new.clock) c.args.store.now c.go_round.new.store c.give_up-2.new.store (c.go_round.ensures.by_clock) c.give_up-2.ensures.goes c.give_up-2.ensures.latest) c.pump.ensures.by_clock

pub returns-in-Labels-clause-goes : goal.returns-in-Labels-clause-goes
returns-in-Labels-clause-goes g c = goes_then g.M.Picked.rules c.args.store.now c.give_up-2.new.store c.pump.new.store (goes_then g.M.Picked.rules c.args.store.now c.go_round.new.store c.give_up-2.new.store (c.go_round.ensures.goes) c.give_up-2.ensures.goes) c.pump.ensures.goes

pub returns-in-Labels-clause-by_clock : goal.returns-in-Labels-clause-by_clock
returns-in-Labels-clause-by_clock g c = clock_then g.M.Picked.rules c.args.pace.now.steps (g.C.Clock.given c.args.clock.now) (g.C.Clock.given c.go_round.new.clock) (g.C.Clock.given c.pump.new.clock) c.args.store.now c.give_up-2.new.store c.pump.new.store (clock_then_goes g.M.Picked.rules c.args.pace.now.steps (g.C.Clock.given c.args.clock.now) (g.C.Clock.given c.go_round.new.clock) c.args.store.now c.go_round.new.store c.give_up-2.new.store (c.go_round.ensures.by_clock) c.give_up-2.ensures.goes c.give_up-2.ensures.latest) c.pump.ensures.by_clock

pub returns-in-Rest-clause-goes : goal.returns-in-Rest-clause-goes
returns-in-Rest-clause-goes g c = goes_then g.M.Picked.rules c.args.store.now c.give_up-2.new.store c.pump.new.store (goes_then g.M.Picked.rules c.args.store.now c.go_round.new.store c.give_up-2.new.store (c.go_round.ensures.goes) c.give_up-2.ensures.goes) c.pump.ensures.goes

pub returns-in-Rest-clause-by_clock : goal.returns-in-Rest-clause-by_clock
returns-in-Rest-clause-by_clock g c = clock_then g.M.Picked.rules c.args.pace.now.steps (g.C.Clock.given c.args.clock.now) (g.C.Clock.given c.go_round.new.clock) (g.C.Clock.given c.pump.new.clock) c.args.store.now c.give_up-2.new.store c.pump.new.store (clock_then_goes g.M.Picked.rules c.args.pace.now.steps (g.C.Clock.given c.args.clock.now) (g.C.Clock.given c.go_round.new.clock) c.args.store.now c.go_round.new.store c.give_up-2.new.store (c.go_round.ensures.by_clock) c.give_up-2.ensures.goes c.give_up-2.ensures.latest) c.pump.ensures.by_clock

pub returns-in-Stopped-clause-goes : goal.returns-in-Stopped-clause-goes
returns-in-Stopped-clause-goes g c = goes_then g.M.Picked.rules c.args.store.now c.give_up-2.new.store c.pump.new.store (goes_then g.M.Picked.rules c.args.store.now c.go_round.new.store c.give_up-2.new.store (c.go_round.ensures.goes) c.give_up-2.ensures.goes) c.pump.ensures.goes

pub returns-in-Stopped-clause-by_clock : goal.returns-in-Stopped-clause-by_clock
returns-in-Stopped-clause-by_clock g c = clock_then g.M.Picked.rules c.args.pace.now.steps (g.C.Clock.given c.args.clock.now) (g.C.Clock.given c.go_round.new.clock) (g.C.Clock.given c.pump.new.clock) c.args.store.now c.give_up-2.new.store c.pump.new.store (clock_then_goes g.M.Picked.rules c.args.pace.now.steps (g.C.Clock.given c.args.clock.now) (g.C.Clock.given c.go_round.new.clock) c.args.store.now c.go_round.new.store c.give_up-2.new.store (c.go_round.ensures.by_clock) c.give_up-2.ensures.goes c.give_up-2.ensures.latest) c.pump.ensures.by_clock
