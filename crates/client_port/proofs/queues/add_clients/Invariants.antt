use Rattle.std.proofs.Common.{◌≡◌, ◌++◌, map, drop}
use Rattle.client_port.specs.Views.{queue_of}
use Rattle.client_port.proofs.queues.add_clients.Given as goal

-- the clients so far, with those of the queues that are left
abbrev pub invariant-loop-queue : goal.invariant-loop-queue
invariant-loop-queue l = l.names.items ++ map (λ q. q.client) (map queue_of (drop l.queue-index l.queues)) ≡ l.initial.names.items ++ map (λ q. q.client) (map queue_of l.queues)
