use Rattle.std.proofs.Common.{◌≡◌, ◌<◌, ◌∙◌, ℕ, refl, sym, subst, ap}
use Rattle.cell_frames.proofs.ByItself.{owned_joined}
use Rattle.cell_frames.specs.Joined.{view_of}
use Rattle.hub_store.specs.Changes.{trail_in}
use Rattle.world_steps.proofs.ReadOn.{opening_reads, reads_then}
use Rattle.world_steps.proofs.ReadOn.{settled_reads}
use Rattle.world_steps.proofs.taking_over.take_over.Goals as goal

pub returns-in-Ok-Done-clause-joined : goal.returns-in-Ok-Done-clause-joined
returns-in-Ok-Done-clause-joined g c =
    λ taken. owned_joined g.M.Picked.rules (view_of c.reset_cell.new.store) c.args.part c.reset_cell.new.cell c.in-Ok-Done.ensures.joined c.args.node c.own.new.self c.own.ensures

pub returns-in-Err-SiteFault-clause-reads : goal.returns-in-Err-SiteFault-clause-reads
returns-in-Err-SiteFault-clause-reads g c =
    (opening_reads g.M.Picked.rules c.args.part c.args.mode (view_of c.args.store.now) (view_of c.reopen_cell.new.store) c.args.cell.now c.reopen_cell.new.cell (λ on. settled_reads g.M.Picked.rules g.M.Picked.origin.count c.args.part c.args.store.now (view_of c.reopen_cell.new.store) c.args.cell.now (subst (λ (n : ℕ). c.args.part < n) g.M.Picked.counts c.requires.place) c.requires.kept c.requires.joined on) c.reopen_cell.result c.reopen_cell.ensures.opens)

pub returns-in-Err-Memory-clause-reads : goal.returns-in-Err-Memory-clause-reads
returns-in-Err-Memory-clause-reads g c =
    (opening_reads g.M.Picked.rules c.args.part c.args.mode (view_of c.args.store.now) (view_of c.reopen_cell.new.store) c.args.cell.now c.reopen_cell.new.cell (λ on. settled_reads g.M.Picked.rules g.M.Picked.origin.count c.args.part c.args.store.now (view_of c.reopen_cell.new.store) c.args.cell.now (subst (λ (n : ℕ). c.args.part < n) g.M.Picked.counts c.requires.place) c.requires.kept c.requires.joined on) c.reopen_cell.result c.reopen_cell.ensures.opens)

pub returns-in-Ok-Done-clause-reads : goal.returns-in-Ok-Done-clause-reads
returns-in-Ok-Done-clause-reads g c =
    reads_then g.M.Picked.rules (view_of c.args.store.now) (view_of c.reopen_cell.new.store) (view_of c.reset_cell.new.store) (opening_reads g.M.Picked.rules c.args.part c.args.mode (view_of c.args.store.now) (view_of c.reopen_cell.new.store) c.args.cell.now c.reopen_cell.new.cell (λ on. settled_reads g.M.Picked.rules g.M.Picked.origin.count c.args.part c.args.store.now (view_of c.reopen_cell.new.store) c.args.cell.now (subst (λ (n : ℕ). c.args.part < n) g.M.Picked.counts c.requires.place) c.requires.kept c.requires.joined on) c.reopen_cell.result c.reopen_cell.ensures.opens) (sym (ap trail_in c.reset_cell.ensures.logs))

pub returns-in-Ok-Spent-clause-reads : goal.returns-in-Ok-Spent-clause-reads
returns-in-Ok-Spent-clause-reads g c =
    reads_then g.M.Picked.rules (view_of c.args.store.now) (view_of c.reopen_cell.new.store) (view_of c.reset_cell.new.store) (opening_reads g.M.Picked.rules c.args.part c.args.mode (view_of c.args.store.now) (view_of c.reopen_cell.new.store) c.args.cell.now c.reopen_cell.new.cell (λ on. settled_reads g.M.Picked.rules g.M.Picked.origin.count c.args.part c.args.store.now (view_of c.reopen_cell.new.store) c.args.cell.now (subst (λ (n : ℕ). c.args.part < n) g.M.Picked.counts c.requires.place) c.requires.kept c.requires.joined on) c.reopen_cell.result c.reopen_cell.ensures.opens) (sym (ap trail_in c.reset_cell.ensures.logs))

pub returns-in-Err-clause-reads : goal.returns-in-Err-clause-reads
returns-in-Err-clause-reads g c =
    reads_then g.M.Picked.rules (view_of c.args.store.now) (view_of c.reopen_cell.new.store) (view_of c.reset_cell.new.store) (opening_reads g.M.Picked.rules c.args.part c.args.mode (view_of c.args.store.now) (view_of c.reopen_cell.new.store) c.args.cell.now c.reopen_cell.new.cell (λ on. settled_reads g.M.Picked.rules g.M.Picked.origin.count c.args.part c.args.store.now (view_of c.reopen_cell.new.store) c.args.cell.now (subst (λ (n : ℕ). c.args.part < n) g.M.Picked.counts c.requires.place) c.requires.kept c.requires.joined on) c.reopen_cell.result c.reopen_cell.ensures.opens) (sym (ap trail_in c.reset_cell.ensures.logs))
