use Rattle.std.proofs.Common.{IfOk, ap, sym, subst}
use Rattle.flow_syntax.specs.Views.{statement_of}
use Rattle.flow_syntax.specs.Machine.{statement_step}
use Rattle.flow_machine.specs.Views.{machine_of}
use Rattle.flow_machine.specs.Steps.{Waits}
use Rattle.flow_machine.proofs.machine.Machine.step_statement.Goals as goal

pub returns-in-Await : goal.returns-in-Await
returns-in-Await c =
    subst (λ s. IfOk c.step_await.result (λ went. Waits went c.args.made.now c.step_await.new.made c.step_await.new.self (machine_of c.args.self.now) (λ was. statement_step was (machine_of c.args.self.now) s))) (sym (ap statement_of c.in-Await.is)) c.step_await.ensures

pub returns-in-All : goal.returns-in-All
returns-in-All c =
    subst (λ s. IfOk c.step_all.result (λ went. Waits went c.args.made.now c.step_all.new.made c.step_all.new.self (machine_of c.args.self.now) (λ was. statement_step was (machine_of c.args.self.now) s))) (sym (ap statement_of c.in-All.is)) c.step_all.ensures

pub returns-in-Any : goal.returns-in-Any
returns-in-Any c =
    subst (λ s. IfOk c.step_any.result (λ went. Waits went c.args.made.now c.step_any.new.made c.step_any.new.self (machine_of c.args.self.now) (λ was. statement_step was (machine_of c.args.self.now) s))) (sym (ap statement_of c.in-Any.is)) c.step_any.ensures
