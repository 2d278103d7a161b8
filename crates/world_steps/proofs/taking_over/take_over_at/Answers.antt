use Rattle.std.proofs.Common.{refl}
use Rattle.cell_frames.specs.Joined.{view_of}
use Rattle.world_steps.proofs.Cells.{its_place, is_going, kept_all, kept_ok, becomes_ok}
use Rattle.world_steps.proofs.taking_over.take_over_at.Goals as goal

pub take_over-requires-clause-going : goal.take_over-requires-clause-going
take_over-requires-clause-going g c = (c.requires.joined c.args.part c.index_mut-cell.result.now (its_place g.M.Picked.rules c.args.cells.now.items c.args.part c.index_mut-cell.result.now c.requires.many c.requires.place c.index_mut-cell.ensures.value)).0

pub take_over-requires-clause-joined : goal.take_over-requires-clause-joined
take_over-requires-clause-joined g c = (c.requires.joined c.args.part c.index_mut-cell.result.now (its_place g.M.Picked.rules c.args.cells.now.items c.args.part c.index_mut-cell.result.now c.requires.many c.requires.place c.index_mut-cell.ensures.value)).1

pub returns-clause-joined : goal.returns-clause-joined
returns-clause-joined g c = λ taken.
    kept_all g.M.Picked.rules (view_of c.args.store.now) (view_of c.take_over.new.store) c.args.cells.now.items c.args.part c.take_over.new.cell c.requires.many c.requires.place c.requires.joined c.take_over.ensures.others (c.take_over.ensures.going taken) (c.take_over.ensures.joined taken)

pub returns-clause-taken : goal.returns-clause-taken
returns-clause-taken g c = record { cell = c.index_mut-cell.result.now; after = c.take_over.new.cell; there = its_place g.M.Picked.rules c.args.cells.now.items c.args.part c.index_mut-cell.result.now c.requires.many c.requires.place c.index_mut-cell.ensures.value; becomes = refl; does = c.take_over.ensures.taken }
