use Rattle.node_core.proofs.Growing.{taken_on}
use Rattle.std.proofs.Common.{◌∙◌, ap, subst, sym}
use Rattle.cell_frames.specs.Joined.{view_of}
use Rattle.cell_frames.specs.declared.owning.Reopened.TheVariants as reopenings
use Rattle.node_core.proofs.Frames.{taken_few, taken_stay}
use Rattle.node_core.proofs.Spending.{taken_spent}
use Rattle.node_core.proofs.Steps.{runs_on}
use Rattle.world_steps.specs.Cells.{CellBecomes}
use Rattle.world_steps.specs.TakesOver.{IsTaken, TakenBy}
use Rattle.world_steps.specs.declared.taking_over.Taken.TheVariants as takings
use Rattle.round_steps.proofs.owning.own.Goals as goal

pub returns-in-Ok-clause-running : goal.returns-in-Ok-clause-running
returns-in-Ok-clause-running g c =
    let h = c.take_over_at.ensures in
    let rules = g.M.Picked.rules in
    let old = c.args.store.now in
    let new = c.take_over_at.new.store in
    let cells = c.args.cells.now.items in
    let later = c.take_over_at.new.cells.items in
    let taken = subst IsTaken (sym c.in-Done-Settled.is) tt in
    let short = taken_stay rules c.args.mode c.args.part c.args.node (view_of old) (view_of new) cells later c.take_over_at.result (reopenings.Settled c.in-Done-Settled.packets) (c.in-Done-Settled.is ∙ ap takings.Done c.in-Done-Settled.field-0-is) h.taken c.requires.running.short in
    runs_on g.M.Picked.origin rules old new cells later c.requires.running h.keeps h.kept (h.halts taken) h.many short (h.joined taken)

pub returns-in-Done-Dropped-clause-running : goal.returns-in-Done-Dropped-clause-running
returns-in-Done-Dropped-clause-running g c =
    let h = c.take_over_at.ensures in
    let rules = g.M.Picked.rules in
    let old = c.args.store.now in
    let new = c.take_over_at.new.store in
    let cells = c.args.cells.now.items in
    let later = c.take_over_at.new.cells.items in
    let taken = subst IsTaken (sym c.in-Done-Dropped.is) tt in
    let short = taken_stay rules c.args.mode c.args.part c.args.node (view_of old) (view_of new) cells later c.take_over_at.result reopenings.Dropped (c.in-Done-Dropped.is ∙ ap takings.Done c.in-Done-Dropped.field-0-is) h.taken c.requires.running.short in
    runs_on g.M.Picked.origin rules old new cells later c.requires.running h.keeps h.kept (h.halts taken) h.many short (h.joined taken)

pub returns-in-Ok-clause-grows : goal.returns-in-Ok-clause-grows
returns-in-Ok-clause-grows g c =
    let h = c.take_over_at.ensures in
    taken_on g.M.Picked.rules g.M.Picked.origin c.args.part c.args.mode c.args.store.now c.take_over_at.new.store c.args.cells.now.items c.take_over_at.new.cells.items c.args.node c.take_over_at.result c.requires.running h.keeps h.taken

pub returns-in-Err-clause-grows : goal.returns-in-Err-clause-grows
returns-in-Err-clause-grows g c =
    let h = c.take_over_at.ensures in
    taken_on g.M.Picked.rules g.M.Picked.origin c.args.part c.args.mode c.args.store.now c.take_over_at.new.store c.args.cells.now.items c.take_over_at.new.cells.items c.args.node c.take_over_at.result c.requires.running h.keeps h.taken

pub returns-in-Spent-clause-grows : goal.returns-in-Spent-clause-grows
returns-in-Spent-clause-grows g c =
    let h = c.take_over_at.ensures in
    taken_on g.M.Picked.rules g.M.Picked.origin c.args.part c.args.mode c.args.store.now c.take_over_at.new.store c.args.cells.now.items c.take_over_at.new.cells.items c.args.node c.take_over_at.result c.requires.running h.keeps h.taken

pub returns-in-Memory-clause-grows : goal.returns-in-Memory-clause-grows
returns-in-Memory-clause-grows g c =
    let h = c.take_over_at.ensures in
    taken_on g.M.Picked.rules g.M.Picked.origin c.args.part c.args.mode c.args.store.now c.take_over_at.new.store c.args.cells.now.items c.take_over_at.new.cells.items c.args.node c.take_over_at.result c.requires.running h.keeps h.taken

pub returns-in-Ok-clause-few : goal.returns-in-Ok-clause-few
returns-in-Ok-clause-few g c = taken_few g.M.Picked.origin g.M.Picked.rules c.args.part c.args.mode c.args.store.now c.take_over_at.new.store c.args.cells.now.items c.take_over_at.new.cells.items c.requires.running c.args.node c.take_over_at.result c.take_over_at.ensures.taken

pub returns-in-Err-clause-few : goal.returns-in-Err-clause-few
returns-in-Err-clause-few g c = taken_few g.M.Picked.origin g.M.Picked.rules c.args.part c.args.mode c.args.store.now c.take_over_at.new.store c.args.cells.now.items c.take_over_at.new.cells.items c.requires.running c.args.node c.take_over_at.result c.take_over_at.ensures.taken

pub returns-in-Spent-clause-few : goal.returns-in-Spent-clause-few
returns-in-Spent-clause-few g c = taken_few g.M.Picked.origin g.M.Picked.rules c.args.part c.args.mode c.args.store.now c.take_over_at.new.store c.args.cells.now.items c.take_over_at.new.cells.items c.requires.running c.args.node c.take_over_at.result c.take_over_at.ensures.taken

pub returns-in-Memory-clause-few : goal.returns-in-Memory-clause-few
returns-in-Memory-clause-few g c = taken_few g.M.Picked.origin g.M.Picked.rules c.args.part c.args.mode c.args.store.now c.take_over_at.new.store c.args.cells.now.items c.take_over_at.new.cells.items c.requires.running c.args.node c.take_over_at.result c.take_over_at.ensures.taken

pub returns-in-Spent-clause-past : goal.returns-in-Spent-clause-past
returns-in-Spent-clause-past g c =
    let h = c.take_over_at.ensures in
    let rules = g.M.Picked.rules in
    let old = c.args.store.now in
    let new = c.take_over_at.new.store in
    let cells = c.args.cells.now.items in
    let later = c.take_over_at.new.cells.items in
    let taken = subst (λ t. CellBecomes c.args.part cells later (λ was after. TakenBy rules c.args.mode c.args.part c.args.node (view_of old) (view_of new) was t after)) c.in-Spent.is h.taken in
    taken_spent rules c.args.mode c.args.part c.args.node (view_of old) (view_of new) cells later c.in-Spent.reopened c.in-Spent.number taken (h.joined (subst IsTaken (sym c.in-Spent.is) tt))
