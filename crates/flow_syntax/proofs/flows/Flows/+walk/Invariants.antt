use Rattle.std.proofs.Common.{◌≡◌, drop}
use Rattle.flow_syntax.specs.Check.{statements}
use Rattle.flow_syntax.specs.Views.{block_of, flows_of}
use Rattle.flow_syntax.specs.Walk.{walked, keeps}
use Rattle.flow_syntax.proofs.flows.Flows.+walk.Given as goal

-- the rest of the statements leads to where all of them lead
abbrev pub invariant-walk_block-loop-statement : goal.invariant-walk_block-loop-statement
invariant-walk_block-loop-statement l = walked (keeps (flows_of l.self) l.rule) l.next (statements l.in_operation (block_of (drop l.statement-index l.block))) ≡ walked (keeps (flows_of l.self) l.rule) l.number (statements l.in_operation (block_of l.block))
