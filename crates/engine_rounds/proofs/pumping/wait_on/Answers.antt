use Rattle.engine_rounds.proofs.Given.{clock_hears, clock_not, clock_still}
use Rattle.engine_rounds.proofs.pumping.wait_on.Goals as goal

pub returns-in-Ok-clause-by_clock : goal.returns-in-Ok-clause-by_clock
returns-in-Ok-clause-by_clock g c =
    let h = c.hear.ensures in
    clock_hears g.M.Picked.rules c.args.steps (g.C.Clock.given c.args.clock.now) (g.C.Clock.given c.wait_until.new.self) _ c.args.store.now c.hear.new.store c.in-Ok.ensures.given h.latest h.trail c.requires.enough

pub returns-in-Err-clause-by_clock : goal.returns-in-Err-clause-by_clock
returns-in-Err-clause-by_clock g c = clock_still g.M.Picked.rules c.args.steps (g.C.Clock.given c.args.clock.now) (g.C.Clock.given c.wait_until.new.self) c.args.store.now c.in-Err.ensures.gave_none

pub returns-in_default-clause-by_clock : goal.returns-in_default-clause-by_clock
returns-in_default-clause-by_clock g c = clock_not g.M.Picked.rules c.args.steps (g.C.Clock.given c.args.clock.now) c.args.store.now
