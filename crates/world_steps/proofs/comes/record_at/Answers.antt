use Rattle.std.proofs.Common.{refl}
use Rattle.cell_frames.proofs.ByItself.{records_joined}
use Rattle.dura_value.specs.Views.{id_of}
use Rattle.part_rows.specs.Views.{activity_of}
use Rattle.world_steps.proofs.Cells.{each_ok, there_at}
use Rattle.world_steps.specs.Comes.{RecordsAt}
use Rattle.world_steps.proofs.comes.record_at.Goals as goal

pub returns-clause-joined : goal.returns-clause-joined
returns-clause-joined g c = λ s asked all.
    let rules = g.M.Picked.rules in
    let cell = c.index_mut-cell.result.now in
    each_ok rules s c.args.cells.now.items c.args.part cell c.outcome.new.self c.outcome.result (λ it. RecordsAt rules c.args.ended it cell c.outcome.new.self)
    c.requires.place c.index_mut-cell.ensures.value c.outcome.ensures.going c.outcome.ensures.records
    (λ it is joined. records_joined rules s c.args.part cell joined is.0 (id_of c.args.ended.id) c.args.ended.task (activity_of c.args.ended.activity) c.args.ended.outcome it c.outcome.new.self
    (λ serves base there. asked serves cell (there_at c.args.cells.now.items c.args.part cell c.requires.place c.index_mut-cell.ensures.value) base there) is.2) all
