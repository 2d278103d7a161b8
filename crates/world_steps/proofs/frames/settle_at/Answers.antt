use Rattle.std.proofs.Common.{◌<◌, ℕ, refl, subst}
use Rattle.cell_frames.specs.Joined.{view_of}
use Rattle.world_steps.proofs.Cells.{its_place, is_going, kept_all, kept_ok, becomes_ok}
use Rattle.world_steps.proofs.ReadOn.{settling_reads, fault_settles_nothing}
use Rattle.world_steps.proofs.ReadOn.{settled_reads, same_place, not_closed}
use Rattle.world_steps.proofs.frames.settle_at.Goals as goal

pub settle_frame-requires-clause-going : goal.settle_frame-requires-clause-going
settle_frame-requires-clause-going g c = (c.requires.joined c.args.part c.index_mut-cell.result.now (its_place g.M.Picked.rules c.args.cells.now.items c.args.part c.index_mut-cell.result.now c.requires.many c.requires.place c.index_mut-cell.ensures.value)).0

pub settle_frame-requires-clause-joined : goal.settle_frame-requires-clause-joined
settle_frame-requires-clause-joined g c = (c.requires.joined c.args.part c.index_mut-cell.result.now (its_place g.M.Picked.rules c.args.cells.now.items c.args.part c.index_mut-cell.result.now c.requires.many c.requires.place c.index_mut-cell.ensures.value)).1

pub returns-clause-joined : goal.returns-clause-joined
returns-clause-joined g c = λ apart.
    let going = is_going _ c.settle_frame.new.cell.going c.settle_frame.ensures.going apart in
    kept_all g.M.Picked.rules (view_of c.args.store.now) (view_of c.settle_frame.new.store) c.args.cells.now.items c.args.part c.settle_frame.new.cell c.requires.many c.requires.place c.requires.joined c.settle_frame.ensures.others going (c.settle_frame.ensures.joined going)

pub returns-clause-settles : goal.returns-clause-settles
returns-clause-settles g c = record { cell = c.index_mut-cell.result.now; after = c.settle_frame.new.cell; there = its_place g.M.Picked.rules c.args.cells.now.items c.args.part c.index_mut-cell.result.now c.requires.many c.requires.place c.index_mut-cell.ensures.value; becomes = refl; does = c.settle_frame.ensures.settles }

pub returns-clause-reads : goal.returns-clause-reads
returns-clause-reads g c =
    let rules = g.M.Picked.rules in
    let cell = c.index_mut-cell.result.now in
    let there = its_place rules c.args.cells.now.items c.args.part cell c.requires.many c.requires.place c.index_mut-cell.ensures.value in
    let joined = (c.requires.joined c.args.part cell there).1 in
    let new = view_of c.settle_frame.new.store in
    let below = subst (λ (n : ℕ). c.args.part < n) g.M.Picked.counts c.requires.place in
    settling_reads rules c.args.part c.args.mode (view_of c.args.store.now) new cell c.settle_frame.new.cell (λ on. settled_reads rules g.M.Picked.origin.count c.args.part c.args.store.now new cell below c.requires.kept joined on) c.settle_frame.result c.settle_frame.ensures.settles

pub returns-clause-kept_trail : goal.returns-clause-kept_trail
returns-clause-kept_trail g c = fault_settles_nothing g.M.Picked.rules c.args.part c.args.mode (view_of c.args.store.now) (view_of c.settle_frame.new.store) c.index_mut-cell.result.now c.settle_frame.new.cell c.settle_frame.result c.settle_frame.ensures.settles

pub returns-clause-unchanged : goal.returns-clause-unchanged
returns-clause-unchanged g c = λ none.
    let same = c.settle_frame.ensures.unchanged none in
    (same.0, same_place c.args.cells.now.items c.args.part c.index_mut-cell.result.now c.settle_frame.new.cell c.index_mut-cell.ensures.value same.1)

pub returns-clause-open : goal.returns-clause-open
returns-clause-open g c = λ framed. not_closed _ (λ closed. framed (c.settle_frame.ensures.no_frame.1 closed))
