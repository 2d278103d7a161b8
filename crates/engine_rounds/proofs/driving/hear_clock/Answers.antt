use Rattle.engine_rounds.proofs.Given.{clock_hears, clock_still}
use Rattle.site_model.specs.Readings.{asked}
use Rattle.engine_rounds.proofs.driving.hear_clock.Goals as goal

pub returns-in-Ok-clause-by_clock : goal.returns-in-Ok-clause-by_clock
returns-in-Ok-clause-by_clock g c =
    let h = c.hear.ensures in
    clock_hears g.M.Picked.rules c.args.steps (g.C.Clock.given c.args.clock.now) (g.C.Clock.given c.now.new.self) (asked c.in-Ok.now) c.args.store.now c.hear.new.store c.in-Ok.ensures.given h.latest h.trail c.requires.enough

pub returns-in-Err-clause-by_clock : goal.returns-in-Err-clause-by_clock
returns-in-Err-clause-by_clock g c = clock_still g.M.Picked.rules c.args.steps (g.C.Clock.given c.args.clock.now) (g.C.Clock.given c.now.new.self) c.args.store.now c.in-Err.ensures.gave_none
