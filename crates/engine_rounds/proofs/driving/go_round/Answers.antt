use Rattle.round_steps.proofs.Counts.{counted_still}
use Rattle.engine_rounds.proofs.Given.{clock_then_goes}
use Rattle.hub_store.specs.Changes.{trail_in}
use Rattle.round_steps.proofs.Goes.{goes_then}
use Rattle.engine_rounds.proofs.driving.go_round.Goals as goal

pub returns-in_err-went-clause-goes : goal.returns-in_err-went-clause-goes
returns-in_err-went-clause-goes g c = goes_then g.M.Picked.rules c.args.store.now c.go_once.new.store c.follow.new.store (c.go_once.ensures.goes) c.follow.ensures.goes

pub returns-in_err-went-clause-by_clock : goal.returns-in_err-went-clause-by_clock
returns-in_err-went-clause-by_clock g c = clock_then_goes g.M.Picked.rules c.args.pace.now.steps (g.C.Clock.given c.args.clock.now) (g.C.Clock.given c.go_once.new.clock) c.args.store.now c.go_once.new.store c.follow.new.store (c.go_once.ensures.by_clock) c.follow.ensures.goes c.follow.ensures.latest

pub returns-in_err-serve_reached-clause-goes : goal.returns-in_err-serve_reached-clause-goes
returns-in_err-serve_reached-clause-goes g c = goes_then g.M.Picked.rules c.args.store.now c.follow.new.store c.serve_reached.new.store (goes_then g.M.Picked.rules c.args.store.now c.go_once.new.store c.follow.new.store (c.go_once.ensures.goes) c.follow.ensures.goes) c.serve_reached.ensures.goes

pub returns-in_err-serve_reached-clause-by_clock : goal.returns-in_err-serve_reached-clause-by_clock
returns-in_err-serve_reached-clause-by_clock g c = clock_then_goes g.M.Picked.rules c.args.pace.now.steps (g.C.Clock.given c.args.clock.now) (g.C.Clock.given c.go_once.new.clock) c.args.store.now c.follow.new.store c.serve_reached.new.store (clock_then_goes g.M.Picked.rules c.args.pace.now.steps (g.C.Clock.given c.args.clock.now) (g.C.Clock.given c.go_once.new.clock) c.args.store.now c.go_once.new.store c.follow.new.store (c.go_once.ensures.by_clock) c.follow.ensures.goes c.follow.ensures.latest) c.serve_reached.ensures.goes c.serve_reached.ensures.latest

pub returns-then-course-before-clause-goes : goal.returns-then-course-before-clause-goes
returns-then-course-before-clause-goes g c = goes_then g.M.Picked.rules c.args.store.now c.follow.new.store c.serve_reached.new.store (goes_then g.M.Picked.rules c.args.store.now c.go_once.new.store c.follow.new.store (c.go_once.ensures.goes) c.follow.ensures.goes) c.serve_reached.ensures.goes

pub returns-then-course-before-clause-by_clock : goal.returns-then-course-before-clause-by_clock
returns-then-course-before-clause-by_clock g c = clock_then_goes g.M.Picked.rules c.args.pace.now.steps (g.C.Clock.given c.args.clock.now) (g.C.Clock.given c.go_once.new.clock) c.args.store.now c.follow.new.store c.serve_reached.new.store (clock_then_goes g.M.Picked.rules c.args.pace.now.steps (g.C.Clock.given c.args.clock.now) (g.C.Clock.given c.go_once.new.clock) c.args.store.now c.go_once.new.store c.follow.new.store (c.go_once.ensures.by_clock) c.follow.ensures.goes c.follow.ensures.latest) c.serve_reached.ensures.goes c.serve_reached.ensures.latest

pub returns-in_err-tidy-clause-goes : goal.returns-in_err-tidy-clause-goes
returns-in_err-tidy-clause-goes g c = goes_then g.M.Picked.rules c.args.store.now c.serve_reached.new.store c.tidy.new.store (goes_then g.M.Picked.rules c.args.store.now c.follow.new.store c.serve_reached.new.store (goes_then g.M.Picked.rules c.args.store.now c.go_once.new.store c.follow.new.store (c.go_once.ensures.goes) c.follow.ensures.goes) c.serve_reached.ensures.goes) c.tidy.ensures.goes

pub returns-in_err-tidy-clause-by_clock : goal.returns-in_err-tidy-clause-by_clock
returns-in_err-tidy-clause-by_clock g c = clock_then_goes g.M.Picked.rules c.args.pace.now.steps (g.C.Clock.given c.args.clock.now) (g.C.Clock.given c.go_once.new.clock) c.args.store.now c.serve_reached.new.store c.tidy.new.store (clock_then_goes g.M.Picked.rules c.args.pace.now.steps (g.C.Clock.given c.args.clock.now) (g.C.Clock.given c.go_once.new.clock) c.args.store.now c.follow.new.store c.serve_reached.new.store (clock_then_goes g.M.Picked.rules c.args.pace.now.steps (g.C.Clock.given c.args.clock.now) (g.C.Clock.given c.go_once.new.clock) c.args.store.now c.go_once.new.store c.follow.new.store (c.go_once.ensures.by_clock) c.follow.ensures.goes c.follow.ensures.latest) c.serve_reached.ensures.goes c.serve_reached.ensures.latest) c.tidy.ensures.goes c.tidy.ensures.latest

pub returns-clause-goes : goal.returns-clause-goes
returns-clause-goes g c = goes_then g.M.Picked.rules c.args.store.now c.serve_reached.new.store c.tidy.new.store (goes_then g.M.Picked.rules c.args.store.now c.follow.new.store c.serve_reached.new.store (goes_then g.M.Picked.rules c.args.store.now c.go_once.new.store c.follow.new.store (c.go_once.ensures.goes) c.follow.ensures.goes) c.serve_reached.ensures.goes) c.tidy.ensures.goes

pub returns-clause-by_clock : goal.returns-clause-by_clock
returns-clause-by_clock g c = clock_then_goes g.M.Picked.rules c.args.pace.now.steps (g.C.Clock.given c.args.clock.now) (g.C.Clock.given c.go_once.new.clock) c.args.store.now c.serve_reached.new.store c.tidy.new.store (clock_then_goes g.M.Picked.rules c.args.pace.now.steps (g.C.Clock.given c.args.clock.now) (g.C.Clock.given c.go_once.new.clock) c.args.store.now c.follow.new.store c.serve_reached.new.store (clock_then_goes g.M.Picked.rules c.args.pace.now.steps (g.C.Clock.given c.args.clock.now) (g.C.Clock.given c.go_once.new.clock) c.args.store.now c.go_once.new.store c.follow.new.store (c.go_once.ensures.by_clock) c.follow.ensures.goes c.follow.ensures.latest) c.serve_reached.ensures.goes c.serve_reached.ensures.latest) c.tidy.ensures.goes c.tidy.ensures.latest

pub returns-then-course-before-clause-counted : goal.returns-then-course-before-clause-counted
returns-then-course-before-clause-counted g c = counted_still (trail_in c.follow.new.store.logs) (trail_in c.serve_reached.new.store.logs) c.follow.new.course.seen c.serve_reached.new.course.seen c.in_ok-went.ensures.counted c.serve_reached.ensures.seen c.serve_reached.ensures.trail

pub returns-clause-counted : goal.returns-clause-counted
returns-clause-counted g c =
    let told = counted_still (trail_in c.follow.new.store.logs) (trail_in c.serve_reached.new.store.logs) c.follow.new.course.seen c.serve_reached.new.course.seen c.in_ok-went.ensures.counted c.serve_reached.ensures.seen c.serve_reached.ensures.trail in
    counted_still (trail_in c.serve_reached.new.store.logs) (trail_in c.tidy.new.store.logs) c.serve_reached.new.course.seen c.tidy.new.course.seen told c.tidy.ensures.seen c.tidy.ensures.trail
