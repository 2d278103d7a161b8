use Rattle.log_tests.proofs.log_tests.commit.Goals as goal

pub gate-requires : goal.gate-requires
gate-requires g c _ =
    let (h, payloads, rests) = c.requires in
    (h, payloads, c.args.payload.now, c.in-Ok-sync_body.ensures.after h payloads c.args.payload.now (c.in-Ok.ensures.after h payloads rests))
