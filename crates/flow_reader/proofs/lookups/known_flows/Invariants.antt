-- The flows that are left lead on to all of them.
use Rattle.std.proofs.Common.{◌≡◌}
use Rattle.flow_syntax.specs.Views.{body_in, flows_of, named_by}
use Rattle.flow_reader.specs.Names.{known_flows}
use Rattle.flow_reader.proofs.lookups.known_flows.Given as goal

abbrev pub invariant-loop-name : goal.invariant-loop-name
invariant-loop-name l = known_flows (flows_of l.file) (named_by body_in l.name-iterator) ≡ known_flows (flows_of l.file) (flows_of l.file).flows
