use Rattle.node_core.proofs.Steps.{runs_same}
use Rattle.round_steps.proofs.tidying.trim_now.Goals as goal

pub trim_all-trimmed-requires-clause-running : goal.trim_all-trimmed-requires-clause-running
trim_all-trimmed-requires-clause-running g c =
    let h = c.marks_now.ensures in
    runs_same g.M.Picked.origin g.M.Picked.rules c.args.store.now c.marks_now.new.store c.args.cells.now.items c.requires.serving.running h.kept h.logs h.ledgers
