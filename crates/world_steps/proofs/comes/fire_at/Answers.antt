use Rattle.std.proofs.Common.{refl}
use Rattle.world_steps.proofs.Cells.{there_at, fired_all}
use Rattle.world_steps.proofs.comes.fire_at.Goals as goal

pub returns-clause-moment : goal.returns-clause-moment
returns-clause-moment g c =
    let cell = c.index_mut-cell.result.now in
    record { cell = cell; after = c.fire.new.self; there = there_at c.args.cells.now.items c.args.part cell c.requires.place c.index_mut-cell.ensures.value; becomes = refl; does = c.fire.ensures.moment }

pub returns-clause-fires : goal.returns-clause-fires
returns-clause-fires g c = λ s all.
    let cell = c.index_mut-cell.result.now in
    let there = there_at c.args.cells.now.items c.args.part cell c.requires.place c.index_mut-cell.ensures.value in
    record { cell = cell; after = c.fire.new.self; there = there; becomes = refl; does = (c.fire.ensures.moment, c.fire.ensures.due (all c.args.part cell there).0) }

pub returns-clause-joined : goal.returns-clause-joined
returns-clause-joined g c = λ silent s all.
    fired_all g.M.Picked.rules silent s c.args.cells.now.items c.args.part c.index_mut-cell.result.now c.fire.new.self c.args.now c.requires.place c.index_mut-cell.ensures.value c.fire.ensures.moment all
