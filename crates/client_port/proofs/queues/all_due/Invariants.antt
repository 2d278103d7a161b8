-- Those of the queues so far, with those of the rest, are all.
use Rattle.std.proofs.Common.{◌≡◌, drop}
use Rattle.std.specs.Prelude.{map}
use Rattle.client_port.specs.Ports.{all_due}
use Rattle.client_port.specs.Views.{queue_of}
use Rattle.client_port.proofs.Dues.{with_rest}
use Rattle.client_port.proofs.queues.all_due.Given as goal

abbrev pub invariant-loop-queue : goal.invariant-loop-queue
invariant-loop-queue l = with_rest l.due.items (drop l.queue-index l.queues) ≡ all_due (map queue_of l.queues)
