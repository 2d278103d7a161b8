use Rattle.std.proofs.Common.{◌≡◌, ◌<◌, ◌-◌, ◌+◌, suc, arith}
use Rattle.flow_syntax.specs.Machine.{go, most_steps}
use Rattle.flow_machine.specs.Views.{machine_of}
use Rattle.flow_replay.proofs.Steps.{went, stayed, ran_out_at_last}
use Rattle.flow_replay.proofs.going.go.Goals as goal

pub returns-then-not-went : goal.returns-then-not-went
returns-then-not-went c =
    stayed c.in_ok-went.went (most_steps - c.loop.counter) c.args.made.now c.loop.made c.step.new.made (machine_of c.loop.machine) c.step.new.machine (go most_steps (machine_of c.args.machine.now)) c.if-not-went.true c.in_ok-went.ensures c.loop.invariant

pub loop-preserved : goal.loop-preserved
loop-preserved c =
    let below : c.loop.counter < 10000 = c.loop-test.true in
    let left : most_steps - c.loop.counter ≡ suc (most_steps - (c.loop.counter + 1)) = omega (arith, below) in
    went c.in_ok-went.went (most_steps - c.loop.counter) (most_steps - (c.loop.counter + 1)) c.args.made.now c.loop.made c.step.new.made (machine_of c.loop.machine) c.step.new.machine (go most_steps (machine_of c.args.machine.now)) c.if-not-went.false left c.in_ok-went.ensures c.loop.invariant

pub returns : goal.returns
returns c =
    let none : most_steps - c.loop.counter ≡ 0 = omega (arith, c.loop-test.false) in
    ran_out_at_last c.stop.result (most_steps - c.loop.counter) c.args.made.now c.loop.made c.stop.new.made (machine_of c.loop.machine) c.stop.new.machine (go most_steps (machine_of c.args.machine.now)) none c.stop.ensures c.loop.invariant
