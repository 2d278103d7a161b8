use Rattle.std.proofs.Common.{refl}
use Rattle.node_core.proofs.Steps.{kept_all, runs_on}
use Rattle.node_core.proofs.waves.open_part.Goals as goal

pub returns-in-Ok-clause-running : goal.returns-in-Ok-clause-running
returns-in-Ok-clause-running g c =
    let h = c.open_gate.ensures in
    let r = c.requires.running in
    runs_on g.M.Picked.origin g.M.Picked.rules c.args.store.now c.open_gate.new.store c.args._cells.now c.args._cells.now r (kept_all c.args.part c.args.store.now.logs c.open_gate.new.store.logs h.keeps.logs) h.kept c.in-Ok.ensures.still refl r.short (c.in-Ok.ensures.joined c.args._cells.now r.joined)
