use Rattle.std.proofs.Common.{refl}
use Rattle.node_core.proofs.Steps.{runs_on}
use Rattle.node_core.proofs.waves.sync_all.Goals as goal

pub returns-in-Ok-clause-running : goal.returns-in-Ok-clause-running
returns-in-Ok-clause-running g c =
    let h = c.sync_frames.ensures in
    let r = c.requires.running in
    runs_on g.M.Picked.origin g.M.Picked.rules c.args.store.now c.sync_frames.new.store c.args._cells.now c.args._cells.now r h.keeps h.kept (h.still (λ same. cc (same, c.in-Ok.is))) refl r.short (h.joined (λ same. cc (same, c.in-Ok.is)) c.args._cells.now r.joined)
