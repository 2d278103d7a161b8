use Rattle.node_core.proofs.Steps.{runs_same}
use Rattle.round_steps.proofs.tidying.judge_now.Goals as goal

pub judge_all-rewound-requires : goal.judge_all-rewound-requires
judge_all-rewound-requires g c =
    let h = c.marks_now.ensures in
    record { running = runs_same g.M.Picked.origin g.M.Picked.rules c.args.store.now c.marks_now.new.store c.args.cells.now.items c.requires.serving.running h.kept h.logs h.ledgers }
