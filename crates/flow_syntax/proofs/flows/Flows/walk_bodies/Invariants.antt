use Rattle.std.proofs.Common.{◌≡◌}
use Rattle.flow_syntax.specs.Check.{in_blocks}
use Rattle.flow_syntax.specs.Views.{bodies_of, flows_of}
use Rattle.flow_syntax.specs.Walk.{walked, keeps, in_bodies}
use Rattle.flow_syntax.proofs.flows.Flows.walk_bodies.Given as goal

-- the bodies that are left lead to where all of them lead
abbrev pub invariant-loop-body : goal.invariant-loop-body
invariant-loop-body l = walked (keeps (flows_of l.self) l.rule) l.next (in_bodies l.in_operation l.body-iterator) ≡ walked (keeps (flows_of l.self) l.rule) l.number (in_blocks l.in_operation (bodies_of l.bodies))
