use Rattle.std.proofs.Common.{refl}
use Rattle.cell_frames.specs.Joined.{view_of}
use Rattle.world_steps.proofs.Cells.{its_place, is_going, kept_all, kept_ok, becomes_ok}
use Rattle.world_steps.proofs.given_up.judge_at.Goals as goal

pub judge_cell-requires-clause-going : goal.judge_cell-requires-clause-going
judge_cell-requires-clause-going g c = (c.requires.joined c.args.part c.index_mut-cell.result.now (its_place g.M.Picked.rules c.args.cells.now.items c.args.part c.index_mut-cell.result.now c.requires.many c.requires.place c.index_mut-cell.ensures.value)).0

pub judge_cell-requires-clause-joined : goal.judge_cell-requires-clause-joined
judge_cell-requires-clause-joined g c = (c.requires.joined c.args.part c.index_mut-cell.result.now (its_place g.M.Picked.rules c.args.cells.now.items c.args.part c.index_mut-cell.result.now c.requires.many c.requires.place c.index_mut-cell.ensures.value)).1

pub returns-clause-joined : goal.returns-clause-joined
returns-clause-joined g c =
    kept_ok g.M.Picked.rules (view_of c.args.store.now) (view_of c.judge_cell.new.store) c.args.cells.now.items c.args.part c.judge_cell.new.cell c.judge_cell.result c.requires.many c.requires.place c.requires.joined c.judge_cell.ensures.others c.judge_cell.ensures.going c.judge_cell.ensures.joined

pub returns-clause-judges : goal.returns-clause-judges
returns-clause-judges g c = becomes_ok c.args.cells.now.items c.args.part c.index_mut-cell.result.now c.judge_cell.new.cell c.judge_cell.result _ (its_place g.M.Picked.rules c.args.cells.now.items c.args.part c.index_mut-cell.result.now c.requires.many c.requires.place c.index_mut-cell.ensures.value) c.judge_cell.ensures.judges
