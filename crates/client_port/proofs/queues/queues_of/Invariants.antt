-- The queues are those of the requests so far.
use Rattle.std.proofs.Common.{◌≡◌, []}
use Rattle.std.specs.Prelude.{map, fold}
use Rattle.request_reader.specs.Line.{request_of}
use Rattle.client_port.specs.Places.{all_of, PlacesStand}
use Rattle.client_port.specs.Ports.{with_request}
use Rattle.client_port.proofs.queues.queues_of.Given as goal

abbrev pub invariant-loop-request : goal.invariant-loop-request
invariant-loop-request l = (all_of l.queues ≡ fold with_request [] (map request_of l.yielded)) × PlacesStand l.queues
