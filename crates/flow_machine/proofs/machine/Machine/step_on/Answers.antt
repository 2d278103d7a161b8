use Rattle.std.proofs.Common.{rules, ◌≡◌, ◌∙◌, map, true, ap, subst}
use Rattle.flow_syntax.specs.declared.syntax.Stmt.TheViews.{the_lemmas}
use Rattle.flow_syntax.specs.Syntax.{if_then, while, try, lock_in, first_then, nothing}
use Rattle.flow_syntax.specs.Views.{statement_of, expression_of, block_of, locked_of}
use Rattle.flow_syntax.specs.Machine.{statement_step}
use Rattle.flow_syntax.proofs.Rows.{block_in_row}
use Rattle.flow_machine.specs.Views.{machine_of}
use Rattle.flow_machine.specs.Steps.{Moves, NeverWaits}
use Rattle.flow_machine.proofs.Stepping.{as_is, tried}
use Rattle.flow_machine.proofs.machine.Machine.step_on.Goals as goal

pub step_while-requires : goal.step_while-requires
step_while-requires c =
    let is : statement_of c.args.statement.now ≡ while (expression_of c.in-While.test) (block_of c.deref-in-While.result.now) = search (rules, the_lemmas, block_in_row) in
    ap block_of c.requires.one ∙ ap (λ s. first_then s nothing) is

pub returns-in-Let : goal.returns-in-Let
returns-in-Let c =
    as_is c.step_let.result (λ was s. Moves true c.args.made.now c.step_let.new.made c.step_let.new.self (statement_step was (machine_of c.args.self.now) s)) (statement_of c.args.statement.now) _ (ap statement_of c.in-Let.is) (λ was. c.step_let.ensures)

pub returns-in-Spawn : goal.returns-in-Spawn
returns-in-Spawn c =
    as_is c.step_spawn.result (λ was s. Moves true c.args.made.now c.step_spawn.new.made c.step_spawn.new.self (statement_step was (machine_of c.args.self.now) s)) (statement_of c.args.statement.now) _ (ap statement_of c.in-Spawn.is) (λ was. c.step_spawn.ensures)

pub returns-in-Call : goal.returns-in-Call
returns-in-Call c =
    as_is c.step_call.result (λ was s. Moves true c.args.made.now c.step_call.new.made c.step_call.new.self (statement_step was (machine_of c.args.self.now) s)) (statement_of c.args.statement.now) _ (ap statement_of c.in-Call.is) (λ was. c.step_call.ensures)

pub returns-in-Sub : goal.returns-in-Sub
returns-in-Sub c =
    as_is c.step_sub.result (λ was s. Moves true c.args.made.now c.step_sub.new.made c.step_sub.new.self (statement_step was (machine_of c.args.self.now) s)) (statement_of c.args.statement.now) _ (ap statement_of c.in-Sub.is) (λ was. c.step_sub.ensures)

pub returns-in-Ask : goal.returns-in-Ask
returns-in-Ask c =
    as_is c.step_ask.result (λ was s. Moves true c.args.made.now c.step_ask.new.made c.step_ask.new.self (statement_step was (machine_of c.args.self.now) s)) (statement_of c.args.statement.now) _ (ap statement_of c.in-Ask.is) (λ was. c.step_ask.ensures)

pub returns-in-Timer : goal.returns-in-Timer
returns-in-Timer c =
    as_is c.step_timer.result (λ was s. Moves true c.args.made.now c.step_timer.new.made c.step_timer.new.self (statement_step was (machine_of c.args.self.now) s)) (statement_of c.args.statement.now) _ (ap statement_of c.in-Timer.is) (λ was. c.step_timer.ensures)

pub returns-in-Signal : goal.returns-in-Signal
returns-in-Signal c =
    as_is c.step_signal.result (λ was s. Moves true c.args.made.now c.step_signal.new.made c.step_signal.new.self (statement_step was (machine_of c.args.self.now) s)) (statement_of c.args.statement.now) _ (ap statement_of c.in-Signal.is) (λ was. c.step_signal.ensures)

pub returns-in-Return : goal.returns-in-Return
returns-in-Return c =
    as_is c.step_return.result (λ was s. Moves true c.args.made.now c.step_return.new.made c.step_return.new.self (statement_step was (machine_of c.args.self.now) s)) (statement_of c.args.statement.now) _ (ap statement_of c.in-Return.is) (λ was. c.step_return.ensures)

pub returns-in-Fail : goal.returns-in-Fail
returns-in-Fail c =
    as_is c.step_fail.result (λ was s. Moves true c.args.made.now c.step_fail.new.made c.step_fail.new.self (statement_step was (machine_of c.args.self.now) s)) (statement_of c.args.statement.now) _ (ap statement_of c.in-Fail.is) (λ was. c.step_fail.ensures)

pub returns-in-Lock : goal.returns-in-Lock
returns-in-Lock c =
    let is : statement_of c.args.statement.now ≡ lock_in (map locked_of c.deref.result.now) (block_of c.deref-in-Lock.result.now) = search (rules, the_lemmas, block_in_row) in
    as_is c.step_lock.result (λ was s. Moves true c.args.made.now c.step_lock.new.made c.step_lock.new.self (statement_step was (machine_of c.args.self.now) s)) (statement_of c.args.statement.now) (lock_in (map locked_of c.deref.result.now) (block_of c.deref-in-Lock.result.now)) is (λ was. c.step_lock.ensures)

pub returns-in-If : goal.returns-in-If
returns-in-If c =
    let is : statement_of c.args.statement.now ≡ if_then (expression_of c.in-If.test) (block_of c.deref-in-If.result.now) (block_of c.deref-in-If-2.result.now) = search (rules, the_lemmas, block_in_row) in
    as_is c.step_if.result (λ was s. Moves true c.args.made.now c.step_if.new.made c.step_if.new.self (statement_step was (machine_of c.args.self.now) s)) (statement_of c.args.statement.now) (if_then (expression_of c.in-If.test) (block_of c.deref-in-If.result.now) (block_of c.deref-in-If-2.result.now)) is (λ was. c.step_if.ensures)

pub returns-in-While : goal.returns-in-While
returns-in-While c =
    let is : statement_of c.args.statement.now ≡ while (expression_of c.in-While.test) (block_of c.deref-in-While.result.now) = search (rules, the_lemmas, block_in_row) in
    as_is c.step_while.result (λ was s. Moves true c.args.made.now c.step_while.new.made c.step_while.new.self (statement_step was (machine_of c.args.self.now) s)) (statement_of c.args.statement.now) (while (expression_of c.in-While.test) (block_of c.deref-in-While.result.now)) is (λ was. c.step_while.ensures)

pub returns-in-Await : goal.returns-in-Await
returns-in-Await c = absurd (subst NeverWaits (ap statement_of c.in-Await.is) c.requires.goes_on)

pub returns-in-All : goal.returns-in-All
returns-in-All c = absurd (subst NeverWaits (ap statement_of c.in-All.is) c.requires.goes_on)

pub returns-in-Any : goal.returns-in-Any
returns-in-Any c = absurd (subst NeverWaits (ap statement_of c.in-Any.is) c.requires.goes_on)

pub returns-in-Try : goal.returns-in-Try
returns-in-Try c =
    let is : statement_of c.args.statement.now ≡ try (block_of c.deref-in-Try.result.now) c.in-Try.x (block_of c.deref-in-Try-2.result.now) = search (rules, the_lemmas, block_in_row) in
    as_is c.step_try.result (λ was s. Moves true c.args.made.now c.args.made.now c.step_try.new.self (statement_step was (machine_of c.args.self.now) s)) (statement_of c.args.statement.now)
    (try (block_of c.deref-in-Try.result.now) c.in-Try.x (block_of c.deref-in-Try-2.result.now)) is
    (λ was. tried c.step_try.result c.args.made.now c.step_try.new.self _ c.step_try.ensures)
