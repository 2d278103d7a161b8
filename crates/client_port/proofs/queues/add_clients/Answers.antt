use Rattle.client_port.proofs.Dues.{named}
use Rattle.client_port.proofs.queues.add_clients.Goals as goal

pub loop-queue-preserved : goal.loop-queue-preserved
loop-queue-preserved c =
    named c.loop-queue.names.items c.push.new.self.items _ c.args.queues.now c.loop-queue.queue-index c.queue-item.result c.in_ok-name.name c.loop-queue-test.true c.queue-item.is c.in_ok-name.ensures c.in_ok-push.ensures.items c.loop-queue.invariant
