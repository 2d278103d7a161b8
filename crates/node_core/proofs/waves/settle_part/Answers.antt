use Rattle.node_core.proofs.Frames.{settled_few, settled_stay}
use Rattle.cell_frames.specs.Joined.{view_of}
use Rattle.node_core.proofs.Growing.{settled_on}
use Rattle.node_core.proofs.Steps.{kept_all, runs_on}
use Rattle.node_core.proofs.waves.settle_part.Goals as goal

pub returns-in-Ok-send-clause-running : goal.returns-in-Ok-send-clause-running
returns-in-Ok-send-clause-running g c =
    let h = c.settle_at.ensures in
    let rules = g.M.Picked.rules in
    let old = c.args.store.now in
    let new = c.settle_at.new.store in
    let cells = c.args.cells.now.items in
    let later = c.settle_at.new.cells.items in
    let short = settled_stay rules c.args.part c.args.mode (view_of old) (view_of new) cells later c.settle_at.result c.in-Ok.packets c.in-Ok.is h.settles c.requires.running.short in
    runs_on g.M.Picked.origin rules old new cells later c.requires.running (kept_all c.args.part old.logs new.logs h.keeps.logs) h.kept (h.halts (λ same. cc (same, c.in-Ok.is))) h.many short (h.joined (λ same. cc (same, c.in-Ok.is)))

pub returns-in-Ok-send-clause-grows : goal.returns-in-Ok-send-clause-grows
returns-in-Ok-send-clause-grows g c =
    let h = c.settle_at.ensures in
    settled_on g.M.Picked.rules g.M.Picked.origin c.args.part c.args.mode c.args.store.now c.settle_at.new.store c.args.cells.now.items c.settle_at.new.cells.items c.settle_at.result c.requires.running h.keeps h.settles

pub returns-in-Ok-send-clause-few : goal.returns-in-Ok-send-clause-few
returns-in-Ok-send-clause-few g c = settled_few g.M.Picked.origin g.M.Picked.rules c.args.part c.args.mode c.args.store.now c.settle_at.new.store c.args.cells.now.items c.settle_at.new.cells.items c.requires.running c.settle_at.result c.settle_at.ensures.settles

pub returns-in-Err-clause-grows : goal.returns-in-Err-clause-grows
returns-in-Err-clause-grows g c =
    let h = c.settle_at.ensures in
    settled_on g.M.Picked.rules g.M.Picked.origin c.args.part c.args.mode c.args.store.now c.settle_at.new.store c.args.cells.now.items c.settle_at.new.cells.items c.settle_at.result c.requires.running h.keeps h.settles

pub returns-in-Err-clause-few : goal.returns-in-Err-clause-few
returns-in-Err-clause-few g c = settled_few g.M.Picked.origin g.M.Picked.rules c.args.part c.args.mode c.args.store.now c.settle_at.new.store c.args.cells.now.items c.settle_at.new.cells.items c.requires.running c.settle_at.result c.settle_at.ensures.settles

pub returns-in-Err-Memory-clause-grows : goal.returns-in-Err-Memory-clause-grows
returns-in-Err-Memory-clause-grows g c =
    let h = c.settle_at.ensures in
    settled_on g.M.Picked.rules g.M.Picked.origin c.args.part c.args.mode c.args.store.now c.settle_at.new.store c.args.cells.now.items c.settle_at.new.cells.items c.settle_at.result c.requires.running h.keeps h.settles

pub returns-in-Err-Memory-clause-few : goal.returns-in-Err-Memory-clause-few
returns-in-Err-Memory-clause-few g c = settled_few g.M.Picked.origin g.M.Picked.rules c.args.part c.args.mode c.args.store.now c.settle_at.new.store c.args.cells.now.items c.settle_at.new.cells.items c.requires.running c.settle_at.result c.settle_at.ensures.settles
