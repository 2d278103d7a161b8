-- The plain data that a queue stands for.
use Rattle.std.specs.Prelude.{map}
use Rattle.client_port.specs.Ports.{Queue}
use Rattle.client_port.specs.declared.queues.Queue.{Queue as OwnQueue}
use Rattle.request_reader.specs.Line.{request_of}

abbrev pub queue_of : OwnQueue → Queue
queue_of q = record { client = q.client; requests = map request_of q.requests.items; said = q.said }
