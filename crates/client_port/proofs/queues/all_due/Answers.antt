use Rattle.std.proofs.Common.{sym}
use Rattle.client_port.proofs.Dues.{taken, passed}
use Rattle.client_port.proofs.queues.all_due.Goals as goal
use Rattle.client_port.proofs.queues.all_due.Goals.{in-Some+in_ok-push, in_default}

pub loop-queue-preserved : goal.loop-queue-preserved
loop-queue-preserved c = elim c.match-first_due.branch [
  | in-Some+in_ok-push w ↦ rw (w.due-is, w.in_ok-push.ensures.items) (taken c.loop-queue.due.items c.args.queues.now c.loop-queue.queue-index c.queue-item.result w.in-Some.request c.loop-queue-test.true c.queue-item.is (sym w.in-Some.ensures) c.loop-queue.invariant)
  | in_default w ↦ rw w.due-is (passed c.loop-queue.due.items c.args.queues.now c.loop-queue.queue-index c.queue-item.result c.loop-queue-test.true c.queue-item.is (sym w.in_default.ensures) c.loop-queue.invariant)
]
