use Rattle.world_steps.proofs.Moved.{synced_ok}
use Rattle.world_steps.proofs.gates.sync_frames.Goals as goal

pub returns-clause-joined : goal.returns-clause-joined
returns-clause-joined g c =
    let e = c.sync_all.ensures in
    synced_ok g.M.Picked.rules c.args.store.now c.sync_all.new.self c.sync_all.result e.keeps e.ledgers e.trail e.frames e.ok e.unchanged e.memory
