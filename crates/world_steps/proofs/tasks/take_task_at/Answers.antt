use Rattle.world_steps.proofs.Cells.{each_ok, there_at}
use Rattle.world_steps.proofs.Giving.{asked_ok, gives_joined}
use Rattle.world_steps.specs.Comes.{GivesAt}
use Rattle.world_steps.proofs.tasks.take_task_at.Goals as goal

pub returns-clause-joined : goal.returns-clause-joined
returns-clause-joined g c = λ s all.
    let rules = g.M.Picked.rules in
    let cell = c.index_mut-cell.result.now in
    each_ok rules s c.args.cells.now.items c.args.part cell c.next_task.new.self c.next_task.result (λ it. GivesAt rules it cell c.next_task.new.self)
    c.requires.place c.index_mut-cell.ensures.value c.next_task.ensures.going c.next_task.ensures.gives (λ it is joined. gives_joined rules s c.args.part cell c.next_task.new.self it is joined) all

pub returns-clause-asked : goal.returns-clause-asked
returns-clause-asked g c = λ s all.
    let cell = c.index_mut-cell.result.now in
    asked_ok g.M.Picked.origin g.M.Picked.rules s c.args.cells.now.items c.args.part cell c.next_task.new.self c.requires.begun c.requires.inside c.requires.place
    (there_at c.args.cells.now.items c.args.part cell c.requires.place c.index_mut-cell.ensures.value) all c.next_task.result c.next_task.ensures.gives
