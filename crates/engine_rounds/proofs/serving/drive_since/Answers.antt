use Rattle.engine_rounds.proofs.Given.{clock_not}
use Rattle.engine_rounds.proofs.serving.drive_since.Goals as goal

pub returns-else-was_heard-clause-by_clock : goal.returns-else-was_heard-clause-by_clock
returns-else-was_heard-clause-by_clock g c = clock_not g.M.Picked.rules c.args.pace.now.steps (g.C.Clock.given c.args.clock.now) c.args.store.now
