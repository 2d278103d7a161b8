use Rattle.std.proofs.Common.{◌≡◌}
use Rattle.flow_syntax.specs.Check.{all_statements}
use Rattle.flow_syntax.specs.Views.{flows_of}
use Rattle.flow_syntax.specs.Walk.{walked, keeps, in_operations}
use Rattle.flow_syntax.proofs.flows.Flows.walk.Given as goal

-- the classes that are left lead to where all statements lead
abbrev pub invariant-loop-class : goal.invariant-loop-class
invariant-loop-class l = walked (keeps (flows_of l.self) l.rule) l.next (in_operations l.class-iterator) ≡ walked (keeps (flows_of l.self) l.rule) 0 (all_statements (flows_of l.self))
