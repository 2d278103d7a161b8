use Rattle.std.proofs.Common.{◌∙◌, Err, ap, subst}
use Rattle.cell_frames.specs.Joined.{view_of}
use Rattle.cell_frames.specs.Writes.{Writes}
use Rattle.node_core.proofs.Frames.{writes_stay}
use Rattle.node_core.proofs.Steps.{kept_all, runs_on}
use Rattle.world_steps.specs.Cells.{CellBecomes}
use Rattle.node_core.proofs.waves.write_part.Goals as goal

pub returns-in-Err-Full-clause-past : goal.returns-in-Err-Full-clause-past
returns-in-Err-Full-clause-past g c = c.write_at.ensures.fills c.in-Err-Full.partition c.in-Err-Full.length (c.in-Err-Full.is ∙ ap Err c.in-Err-Full.field-0-is)

pub returns-in-Ok-clause-running : goal.returns-in-Ok-clause-running
returns-in-Ok-clause-running g c =
    let h = c.write_at.ensures in
    let rules = g.M.Picked.rules in
    let p = c.args.part in
    let old = c.args.store.now in
    let new = c.write_at.new.store in
    let cells = c.args.cells.now.items in
    let later = c.write_at.new.cells.items in
    let marks = c.args.marks.now in
    let writes = subst (λ r. CellBecomes p cells later (λ c after. Writes rules p marks (view_of old) (view_of new) c after r)) c.in-Ok.is h.writes in
    let short = writes_stay rules p marks (view_of old) (view_of new) cells later c.in-Ok.wrote writes c.requires.running.short in
    runs_on g.M.Picked.origin rules old new cells later c.requires.running (kept_all p old.logs new.logs h.keeps.logs) h.kept (h.halts (λ same. cc (same, c.in-Ok.is))) h.many short h.joined
