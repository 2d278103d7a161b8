use Rattle.node_core.proofs.Steps.{runs_same}
use Rattle.node_core.proofs.waves.write_now.Goals as goal

pub write_all-wrote-requires : goal.write_all-wrote-requires
write_all-wrote-requires g c =
    let h = c.marks_now.ensures in
    record { running = runs_same g.M.Picked.origin g.M.Picked.rules c.args.store.now c.marks_now.new.store c.args.cells.now.items c.requires.running h.kept h.logs h.ledgers }
