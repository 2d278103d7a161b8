use Rattle.std.proofs.Common.{◌-◌, length, arith}
use Rattle.commit_gate.specs.declared.past.Stretch.{Stretch}
use Rattle.commit_gate.proofs.Stretches.{last_ends}
use Rattle.commit_gate.proofs.past.length_of.Goals as goal

pub returns : goal.returns
returns c =
    let none : Stretch = record { incarnation = 0; end = 0 } in
    last_ends c.args.stretches.now (length c.args.stretches.now - 1) none c.requires.rise (omega arith)
