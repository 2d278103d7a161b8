use Rattle.std.proofs.Common.{arith}
use Rattle.commit_gate.specs.declared.past.Stretch.{Stretch}
use Rattle.commit_gate.proofs.Stretches.{found, behind_all}
use Rattle.commit_gate.proofs.past.incarnation_at.Goals as goal

pub returns-then-at-stretches : goal.returns-then-at-stretches
returns-then-at-stretches c =
    let none : Stretch = record { incarnation = 0; end = 0 } in
    let at = c.stretch_at-at.ensures in
    found c.args.stretches.now c.stretch_at-at.result none c.args.position c.requires.rise (omega arith) at.begun (at.not_ended (omega arith))

pub returns-else-at-stretches : goal.returns-else-at-stretches
returns-else-at-stretches c =
    let at = c.stretch_at-at.ensures in
    behind_all c.args.stretches.now c.stretch_at-at.result c.args.position c.requires.rise (omega (arith, at.inside)) at.begun
