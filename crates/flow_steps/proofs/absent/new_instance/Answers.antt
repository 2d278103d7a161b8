use Rattle.std.proofs.Common.{ap}
use Rattle.part_rows.specs.Reactions.{waits_of}
use Rattle.flow_steps.proofs.absent.new_instance.Goals as goal

pub returns : goal.returns
returns c = λ i. record { machine = c.in_ok-new.ensures i; waiting = ap waits_of c.new-2.ensures.items i }
