use Rattle.engine_rounds.proofs.Given.{clock_then_goes}
use Rattle.round_steps.proofs.Goes.{goes_then}
use Rattle.engine_rounds.proofs.driving.go_once.Goals as goal

pub returns-clause-goes : goal.returns-clause-goes
returns-clause-goes g c = goes_then g.M.Picked.rules c.args.store.now c.hear_clock.new.store c.round.new.store c.hear_clock.ensures.goes c.round.ensures.goes

pub returns-clause-by_clock : goal.returns-clause-by_clock
returns-clause-by_clock g c =
    clock_then_goes g.M.Picked.rules c.args.pace.now.steps (g.C.Clock.given c.args.clock.now) (g.C.Clock.given c.hear_clock.new.clock) c.args.store.now c.hear_clock.new.store c.round.new.store c.hear_clock.ensures.by_clock c.round.ensures.goes c.round.ensures.latest
