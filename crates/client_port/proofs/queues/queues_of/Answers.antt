use Rattle.client_port.proofs.Changes.{one_more}
use Rattle.client_port.proofs.queues.queues_of.Goals as goal

pub loop-request-preserved : goal.loop-request-preserved
loop-request-preserved c =
    (one_more c.loop-request.queues.all.items c.add.new.self.all.items c.loop-request.yielded c.in-Some.request c.loop-request.invariant.0 c.in_ok-add.ensures.added, c.in_ok-add.ensures.stands)
