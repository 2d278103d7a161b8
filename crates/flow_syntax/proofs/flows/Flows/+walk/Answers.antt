use Rattle.std.proofs.Common.{◌≡◌, ◌∙◌, Ok, Err, sym, rules}
use Rattle.flow_syntax.specs.declared.syntax.Stmt.TheViews.{the_lemmas}
use Rattle.flow_syntax.specs.Syntax.{if_then, try}
use Rattle.flow_syntax.specs.Check.{statements}
use Rattle.flow_syntax.specs.Views.{expression_of, statement_of, block_of, flows_of}
use Rattle.flow_syntax.specs.Walk.{walked, keeps}
use Rattle.flow_syntax.proofs.Rows.{block_in_row}
use Rattle.flow_syntax.proofs.Walks.{behind, broken, turn_behind, turn_broken}
use Rattle.flow_syntax.proofs.flows.Flows.+walk.Goals as goal

pub walk_within-returns-in-Lock : goal.walk_within-returns-in-Lock
walk_within-returns-in-Lock t c = search (rules, the_lemmas, block_in_row)

pub walk_within-returns-in-While : goal.walk_within-returns-in-While
walk_within-returns-in-While t c = search (rules, the_lemmas, block_in_row)

pub walk_within-returns-in_err-next-in-If : goal.walk_within-returns-in_err-next-in-If
walk_within-returns-in_err-next-in-If t c =
    let is : statement_of c.args.statement.now ≡ if_then (expression_of c.in-If.field-0) (block_of c.in-If.yes.items) (block_of c.in-If.no.items) = search (rules, the_lemmas, block_in_row) in
    let ends : c.from_residual.result ≡ Err c.in_err-next-in-If.field-0.0 = search rules in
    let first : Err c.in_err-next-in-If.field-0.0 ≡ walked (keeps (flows_of c.args.self.now) c.args.rule) c.args.number (statements c.args.in_operation (block_of c.in-If.yes.items)) = rw c.deref-in-If.ensures.value at c.in_err-next-in-If.ensures in
    rw is (ends ∙ sym (broken (keeps (flows_of c.args.self.now) c.args.rule) c.args.number c.in_err-next-in-If.field-0.0 (statements c.args.in_operation (block_of c.in-If.yes.items)) (statements c.args.in_operation (block_of c.in-If.no.items)) first))

pub walk_within-returns-in_ok-next-in-If : goal.walk_within-returns-in_ok-next-in-If
walk_within-returns-in_ok-next-in-If t c =
    let is : statement_of c.args.statement.now ≡ if_then (expression_of c.in-If.field-0) (block_of c.in-If.yes.items) (block_of c.in-If.no.items) = search (rules, the_lemmas, block_in_row) in
    let first : Ok c.in_ok-next-in-If.next ≡ walked (keeps (flows_of c.args.self.now) c.args.rule) c.args.number (statements c.args.in_operation (block_of c.in-If.yes.items)) = rw c.deref-in-If.ensures.value at c.in_ok-next-in-If.ensures in
    let then : c.walk_block-in-If-2.result ≡ walked (keeps (flows_of c.args.self.now) c.args.rule) c.in_ok-next-in-If.next (statements c.args.in_operation (block_of c.in-If.no.items)) = rw c.deref-in-If-2.ensures.value at c.walk_block-in-If-2.ensures in
    rw is (then ∙ sym (behind (keeps (flows_of c.args.self.now) c.args.rule) c.args.number c.in_ok-next-in-If.next (statements c.args.in_operation (block_of c.in-If.yes.items)) (statements c.args.in_operation (block_of c.in-If.no.items)) first))

pub walk_within-returns-in_err-next-in-Try : goal.walk_within-returns-in_err-next-in-Try
walk_within-returns-in_err-next-in-Try t c =
    let is : statement_of c.args.statement.now ≡ try (block_of c.in-Try.body.items) c.in-Try.field-1 (block_of c.in-Try.handler.items) = search (rules, the_lemmas, block_in_row) in
    let ends : c.from_residual-in_err-next-in-Try.result ≡ Err c.in_err-next-in-Try.field-0.0 = search rules in
    let first : Err c.in_err-next-in-Try.field-0.0 ≡ walked (keeps (flows_of c.args.self.now) c.args.rule) c.args.number (statements c.args.in_operation (block_of c.in-Try.body.items)) = rw c.deref-in-Try.ensures.value at c.in_err-next-in-Try.ensures in
    rw is (ends ∙ sym (broken (keeps (flows_of c.args.self.now) c.args.rule) c.args.number c.in_err-next-in-Try.field-0.0 (statements c.args.in_operation (block_of c.in-Try.body.items)) (statements c.args.in_operation (block_of c.in-Try.handler.items)) first))

pub walk_within-returns-in_ok-next-in-Try : goal.walk_within-returns-in_ok-next-in-Try
walk_within-returns-in_ok-next-in-Try t c =
    let is : statement_of c.args.statement.now ≡ try (block_of c.in-Try.body.items) c.in-Try.field-1 (block_of c.in-Try.handler.items) = search (rules, the_lemmas, block_in_row) in
    let first : Ok c.in_ok-next-in-Try.next ≡ walked (keeps (flows_of c.args.self.now) c.args.rule) c.args.number (statements c.args.in_operation (block_of c.in-Try.body.items)) = rw c.deref-in-Try.ensures.value at c.in_ok-next-in-Try.ensures in
    let then : c.walk_block-in-Try-2.result ≡ walked (keeps (flows_of c.args.self.now) c.args.rule) c.in_ok-next-in-Try.next (statements c.args.in_operation (block_of c.in-Try.handler.items)) = rw c.deref-in-Try-2.ensures.value at c.walk_block-in-Try-2.ensures in
    rw is (then ∙ sym (behind (keeps (flows_of c.args.self.now) c.args.rule) c.args.number c.in_ok-next-in-Try.next (statements c.args.in_operation (block_of c.in-Try.body.items)) (statements c.args.in_operation (block_of c.in-Try.handler.items)) first))

pub walk_block-returns-in-Err : goal.walk_block-returns-in-Err
walk_block-returns-in-Err t c =
    sym (turn_broken (keeps (flows_of c.args.self.now) c.args.rule) c.loop-statement.next c.in-Err.place c.args.in_operation c.args.block.now c.loop-statement.statement-index c.statement-item.result c.loop-statement-test.true c.statement-item.is c.if-not-keeps.ensures (rw c.saturating_add.ensures at c.in-Err.ensures)) ∙ c.loop-statement.invariant

pub walk_block-loop-statement-preserved : goal.walk_block-loop-statement-preserved
walk_block-loop-statement-preserved t c =
    sym (turn_behind (keeps (flows_of c.args.self.now) c.args.rule) c.loop-statement.next c.in-Ok.behind c.args.in_operation c.args.block.now c.loop-statement.statement-index c.statement-item.result c.loop-statement-test.true c.statement-item.is c.if-not-keeps.ensures (rw c.saturating_add.ensures at c.in-Ok.ensures)) ∙ c.loop-statement.invariant
