use Rattle.std.proofs.Common.{ap}
use Rattle.flow_syntax.specs.Views.{expression_of, statement_of}
use Rattle.flow_syntax.specs.Syntax.{await, await_all, await_any}
use Rattle.flow_syntax.specs.Machine.{statement_step}
use Rattle.flow_machine.specs.Views.{machine_of}
use Rattle.flow_replay.specs.Moving.{Blocks}
use Rattle.flow_replay.proofs.Taken.{of_variable}
use Rattle.flow_replay.proofs.blocked.blocks.Goals as goal

pub returns-in-Await : goal.returns-in-Await
returns-in-Await c =
    of_variable c.await_blocks.result (λ x b. Blocks b (λ was. statement_step was (machine_of c.args.machine.now) x)) (λ v. await v (expression_of c.in-Await.handle)) c.in-Await.field-0 (statement_of c.args.statement.now) (ap statement_of c.in-Await.is) c.await_blocks.ensures

pub returns-in-All : goal.returns-in-All
returns-in-All c =
    of_variable c.all_blocks.result (λ x b. Blocks b (λ was. statement_step was (machine_of c.args.machine.now) x)) (λ v. await_all v (expression_of c.in-All.handles)) c.in-All.field-0 (statement_of c.args.statement.now) (ap statement_of c.in-All.is) c.all_blocks.ensures

pub returns-in-Any : goal.returns-in-Any
returns-in-Any c =
    of_variable c.any_blocks.result (λ x b. Blocks b (λ was. statement_step was (machine_of c.args.machine.now) x)) (λ v. await_any v (expression_of c.in-Any.handles)) c.in-Any.field-0 (statement_of c.args.statement.now) (ap statement_of c.in-Any.is) c.any_blocks.ensures
