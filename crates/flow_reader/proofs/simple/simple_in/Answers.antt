-- A statement by its word.
use Rattle.std.proofs.Common.{sym, subst}
use Rattle.json_tree.specs.View.{items_view}
use Rattle.flow_syntax.specs.Views.{statement_of}
use Rattle.flow_values.specs.Answers.{PartGives}
use Rattle.flow_reader.specs.ByWord.{activity_statement, value_statement, variable_statement}
use Rattle.flow_reader.specs.Statements.{simple_in}
use Rattle.flow_reader.proofs.simple.simple_in.Goals as goal

pub returns-in-Let : goal.returns-in-Let
returns-in-Let c =
    let parts = items_view c.args.parts.now in
    subst (λ w. PartGives statement_of c.variable_statement.result (simple_in w parts)) (sym c.in-Let.is) (subst (λ w. PartGives statement_of c.variable_statement.result (variable_statement w parts)) c.in-Let.is c.variable_statement.ensures)

pub returns-in-Timer : goal.returns-in-Timer
returns-in-Timer c =
    let parts = items_view c.args.parts.now in
    subst (λ w. PartGives statement_of c.variable_statement-in-Timer.result (simple_in w parts)) (sym c.in-Timer.is) (subst (λ w. PartGives statement_of c.variable_statement-in-Timer.result (variable_statement w parts)) c.in-Timer.is c.variable_statement-in-Timer.ensures)

pub returns-in-Await : goal.returns-in-Await
returns-in-Await c =
    let parts = items_view c.args.parts.now in
    subst (λ w. PartGives statement_of c.variable_statement-in-Await.result (simple_in w parts)) (sym c.in-Await.is) (subst (λ w. PartGives statement_of c.variable_statement-in-Await.result (variable_statement w parts)) c.in-Await.is c.variable_statement-in-Await.ensures)

pub returns-in-All : goal.returns-in-All
returns-in-All c =
    let parts = items_view c.args.parts.now in
    subst (λ w. PartGives statement_of c.variable_statement-in-All.result (simple_in w parts)) (sym c.in-All.is) (subst (λ w. PartGives statement_of c.variable_statement-in-All.result (variable_statement w parts)) c.in-All.is c.variable_statement-in-All.ensures)

pub returns-in-Any : goal.returns-in-Any
returns-in-Any c =
    let parts = items_view c.args.parts.now in
    subst (λ w. PartGives statement_of c.variable_statement-in-Any.result (simple_in w parts)) (sym c.in-Any.is) (subst (λ w. PartGives statement_of c.variable_statement-in-Any.result (variable_statement w parts)) c.in-Any.is c.variable_statement-in-Any.ensures)

pub returns-in-Spawn : goal.returns-in-Spawn
returns-in-Spawn c =
    let parts = items_view c.args.parts.now in
    subst (λ w. PartGives statement_of c.activity_statement.result (simple_in w parts)) (sym c.in-Spawn.is) (subst (λ w. PartGives statement_of c.activity_statement.result (activity_statement w parts)) c.in-Spawn.is c.activity_statement.ensures)

pub returns-in-Call : goal.returns-in-Call
returns-in-Call c =
    let parts = items_view c.args.parts.now in
    subst (λ w. PartGives statement_of c.activity_statement-in-Call.result (simple_in w parts)) (sym c.in-Call.is) (subst (λ w. PartGives statement_of c.activity_statement-in-Call.result (activity_statement w parts)) c.in-Call.is c.activity_statement-in-Call.ensures)

pub returns-in-Return : goal.returns-in-Return
returns-in-Return c =
    let parts = items_view c.args.parts.now in
    subst (λ w. PartGives statement_of c.value_statement.result (simple_in w parts)) (sym c.in-Return.is) (subst (λ w. PartGives statement_of c.value_statement.result (value_statement w parts)) c.in-Return.is c.value_statement.ensures)

pub returns-in-Fail : goal.returns-in-Fail
returns-in-Fail c =
    let parts = items_view c.args.parts.now in
    subst (λ w. PartGives statement_of c.value_statement-in-Fail.result (simple_in w parts)) (sym c.in-Fail.is) (subst (λ w. PartGives statement_of c.value_statement-in-Fail.result (value_statement w parts)) c.in-Fail.is c.value_statement-in-Fail.ensures)

pub returns-in-Sub : goal.returns-in-Sub
returns-in-Sub c = subst (λ w. PartGives statement_of c.sub_in.result (simple_in w (items_view c.args.parts.now))) (sym c.in-Sub.is) c.sub_in.ensures

pub returns-in-Ask : goal.returns-in-Ask
returns-in-Ask c = subst (λ w. PartGives statement_of c.ask_in.result (simple_in w (items_view c.args.parts.now))) (sym c.in-Ask.is) c.ask_in.ensures

pub returns-in-Event : goal.returns-in-Event
returns-in-Event c = subst (λ w. PartGives statement_of c.event_in.result (simple_in w (items_view c.args.parts.now))) (sym c.in-Event.is) c.event_in.ensures

pub returns-in-Signal : goal.returns-in-Signal
returns-in-Signal c = subst (λ w. PartGives statement_of c.signal_in.result (simple_in w (items_view c.args.parts.now))) (sym c.in-Signal.is) c.signal_in.ensures
