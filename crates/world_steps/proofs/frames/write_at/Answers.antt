use Rattle.std.proofs.Common.{refl}
use Rattle.cell_frames.specs.Joined.{view_of}
use Rattle.world_steps.proofs.Cells.{its_place, is_going, kept_all, kept_ok, becomes_ok}
use Rattle.world_steps.proofs.ReadOn.{writes_trail}
use Rattle.world_steps.proofs.frames.write_at.Goals as goal

pub write_frame-requires-clause-going : goal.write_frame-requires-clause-going
write_frame-requires-clause-going g c = (c.requires.joined c.args.part c.index_mut-cell.result.now (its_place g.M.Picked.rules c.args.cells.now.items c.args.part c.index_mut-cell.result.now c.requires.many c.requires.place c.index_mut-cell.ensures.value)).0

pub write_frame-requires-clause-joined : goal.write_frame-requires-clause-joined
write_frame-requires-clause-joined g c = (c.requires.joined c.args.part c.index_mut-cell.result.now (its_place g.M.Picked.rules c.args.cells.now.items c.args.part c.index_mut-cell.result.now c.requires.many c.requires.place c.index_mut-cell.ensures.value)).1

pub returns-clause-joined : goal.returns-clause-joined
returns-clause-joined g c =
    kept_all g.M.Picked.rules (view_of c.args.store.now) (view_of c.write_frame.new.store) c.args.cells.now.items c.args.part c.write_frame.new.cell c.requires.many c.requires.place c.requires.joined c.write_frame.ensures.others c.write_frame.ensures.going c.write_frame.ensures.joined

pub returns-clause-writes : goal.returns-clause-writes
returns-clause-writes g c = record { cell = c.index_mut-cell.result.now; after = c.write_frame.new.cell; there = its_place g.M.Picked.rules c.args.cells.now.items c.args.part c.index_mut-cell.result.now c.requires.many c.requires.place c.index_mut-cell.ensures.value; becomes = refl; does = c.write_frame.ensures.writes }

pub returns-clause-full : goal.returns-clause-full
returns-clause-full g c = λ at length is. record { cell = c.index_mut-cell.result.now; after = c.write_frame.new.cell; there = its_place g.M.Picked.rules c.args.cells.now.items c.args.part c.index_mut-cell.result.now c.requires.many c.requires.place c.index_mut-cell.ensures.value; becomes = refl; does = c.write_frame.ensures.full at length is }

pub returns-clause-trail : goal.returns-clause-trail
returns-clause-trail g c = writes_trail g.M.Picked.rules c.args.part c.args.marks.now (view_of c.args.store.now) (view_of c.write_frame.new.store) c.index_mut-cell.result.now c.write_frame.new.cell c.write_frame.result c.write_frame.ensures.writes
