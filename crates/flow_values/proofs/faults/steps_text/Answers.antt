-- One step more was written.
use Rattle.std.proofs.Common.{◌≡◌, ◌+◌, ◌-◌, ◌<◌, length, arith}
use Rattle.flow_values.proofs.Trails.{one_more}
use Rattle.flow_values.proofs.faults.steps_text.Goals as goal

pub loop-left-preserved : goal.loop-left-preserved
loop-left-preserved c =
    let next : c.loop-left.left ≡ c.loop-left.left - 1 + 1 = omega arith in
    let within : c.loop-left.left - 1 < length c.args.steps.now = omega arith in
    (one_more c.args.steps.now (c.loop-left.left - 1) c.loop-left.left c.index-steps-left.result c.loop-left.text.items c.write.new.out.items next within c.index-steps-left.is c.loop-left.invariant.0 c.in_ok-write.ensures, omega arith)
