use Rattle.std.proofs.Common.{arith}
use Rattle.commit_log.proofs.Steps.{synced_long, gate_during, gate_done, gate_fails}
use Rattle.commit_log.proofs.states.Synced.gate.Goals as goal

pub write-requires : goal.write-requires
write-requires g c tells =
    let there = c.requires tells in
    omega (arith, synced_long there.0 there.1 there.2 _ _ _ there.3)

pub returns-in-Ok-clause-during : goal.returns-in-Ok-clause-during
returns-in-Ok-clause-during g c h payloads payload synced = gate_during _ _ _ h payloads payload _ _ _ synced (c.write.ensures.done)

pub returns-in-Ok-clause-after : goal.returns-in-Ok-clause-after
returns-in-Ok-clause-after g c h payloads payload synced = gate_done _ _ _ h payloads payload _ _ synced (c.in-Ok.ensures.done).ok

pub returns-in-Err-clause-during : goal.returns-in-Err-clause-during
returns-in-Err-clause-during g c h payloads payload synced = gate_during _ _ _ h payloads payload _ _ _ synced (c.write.ensures.done)

pub returns-in-Err-clause-after : goal.returns-in-Err-clause-after
returns-in-Err-clause-after g c h payloads payload synced = gate_fails _ _ _ h payloads payload _ _ _ synced (c.write.ensures.done)
