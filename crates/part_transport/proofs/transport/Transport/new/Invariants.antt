use Rattle.std.proofs.Common.{◌≡◌}
use Rattle.part_transport.specs.Lanes.{empty_lanes}
use Rattle.part_transport.proofs.transport.Transport.new.Given as goal

-- an empty lane for each partition so far
abbrev pub invariant-loop : goal.invariant-loop
invariant-loop l = l.lanes.items ≡ empty_lanes l.counter
