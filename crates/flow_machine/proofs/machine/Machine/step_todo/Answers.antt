use Rattle.std.proofs.Common.{◌∙◌, IfOk, length, ap, sym, subst}
use Rattle.std.specs.Option.{option_copied}
use Rattle.flow_syntax.specs.Views.{block_of}
use Rattle.flow_syntax.specs.Machine.{todo}
use Rattle.flow_machine.specs.Views.{machine_of, todos_of}
use Rattle.flow_machine.specs.Steps.{Waits, todo_step}
use Rattle.flow_machine.proofs.Stepping.{alone}
use Rattle.flow_machine.proofs.machine.Machine.step_todo.Goals as goal

pub step_statement-requires : goal.step_statement-requires
step_statement-requires c =
    alone c.in-Body.body.now c.in-Some.statement.now (ap (λ t. length (todos_of t)) (sym c.in-Body.is) ∙ c.requires) (ap option_copied (sym c.in-Some.is) ∙ c.first.ensures.value)

pub returns-in-Some : goal.returns-in-Some
returns-in-Some c =
    let m = machine_of c.args.self.now in
    let one = alone c.in-Body.body.now c.in-Some.statement.now (ap (λ t. length (todos_of t)) (sym c.in-Body.is) ∙ c.requires) (ap option_copied (sym c.in-Some.is) ∙ c.first.ensures.value) in
    subst (λ ts. IfOk c.step_statement.result (λ went. Waits went c.args.made.now c.step_statement.new.made c.step_statement.new.self m (λ was. todo_step was m ts)))
    (sym (ap todos_of c.in-Body.is ∙ ap (λ b. todo (block_of b)) one)) c.step_statement.ensures

pub returns-in-Await : goal.returns-in-Await
returns-in-Await c =
    let m = machine_of c.args.self.now in
    subst (λ ts. IfOk c.step_wait.result (λ went. Waits went c.args.made.now c.step_wait.new.made c.step_wait.new.self m (λ was. todo_step was m ts)))
    (sym (ap todos_of c.in-Await.is)) c.step_wait.ensures
