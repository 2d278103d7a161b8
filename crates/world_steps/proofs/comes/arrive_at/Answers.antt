use Rattle.dura_value.specs.Views.{message_of}
use Rattle.cell_frames.proofs.ByItself.{arrives_joined}
use Rattle.world_steps.proofs.Cells.{each_ok}
use Rattle.world_steps.proofs.comes.arrive_at.Goals as goal

pub returns-clause-joined : goal.returns-clause-joined
returns-clause-joined g c = λ s all.
    let rules = g.M.Picked.rules in
    let cell = c.index_mut-cell.result.now in
    each_ok rules s c.args.cells.now.items c.args.part cell c.arrive.new.self c.arrive.result _
    c.requires.place c.index_mut-cell.ensures.value c.arrive.ensures.going c.arrive.ensures.arrives
    (λ it is joined. arrives_joined rules s c.args.part cell joined is.0 _ _ _ it c.arrive.new.self is.2) all
