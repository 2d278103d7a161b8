-- The names of statements with blocks in them.
use Rattle.std.proofs.Common.{◌≡◌, Ok, Err, map, rules}
use Rattle.flow_syntax.specs.declared.syntax.Stmt.TheViews.{the_lemmas}
use Rattle.flow_syntax.specs.Syntax.{lock_in, if_then, while, try}
use Rattle.flow_syntax.specs.Views.{block_of, expression_of, flows_of, locked_of, statement_of}
use Rattle.flow_syntax.proofs.Rows.{block_in_row}
use Rattle.flow_values.specs.Answers.{PartFails, PartGives}
use Rattle.flow_values.specs.Faults.{at, to_part}
use Rattle.flow_reader.specs.Names.{known_block, known_pairs}
use Rattle.flow_reader.proofs.Known.{then_gives}
use Rattle.flow_values.proofs.Parts.{ends_then}
use Rattle.flow_reader.proofs.lookups.+names.Goals as goal

pub known_in-returns-in_err-block_at-in-If : goal.known_in-returns-in_err-block_at-in-If
known_in-returns-in_err-block_at-in-If t c =
    let is : statement_of c.args.statement.now ≡ if_then (expression_of c.in-If.field-0) (block_of c.in-If.yes.items) (block_of c.in-If.no.items) = search (rules, the_lemmas, block_in_row) in
    let ends : c.from_residual-in_err-block_at-in-If.result ≡ Err c.in_err-block_at-in-If.field-0.0 = search rules in
    let fails : PartFails c.in_err-block_at-in-If.field-0.0 (at (to_part 2) (known_block (flows_of c.args.file.now) 0 (block_of c.in-If.yes.items))) = rw c.deref-in-If.ensures.value at c.in_err-block_at-in-If.ensures in
    rw (is, ends) (ends_then _ _ c.in_err-block_at-in-If.field-0.0 fails)

pub known_in-returns-in_err-block_at-in-Try : goal.known_in-returns-in_err-block_at-in-Try
known_in-returns-in_err-block_at-in-Try t c =
    let is : statement_of c.args.statement.now ≡ try (block_of c.in-Try.body.items) c.in-Try.field-1 (block_of c.in-Try.handler.items) = search (rules, the_lemmas, block_in_row) in
    let ends : c.from_residual-in_err-block_at-in-Try.result ≡ Err c.in_err-block_at-in-Try.field-0.0 = search rules in
    let fails : PartFails c.in_err-block_at-in-Try.field-0.0 (at (to_part 1) (known_block (flows_of c.args.file.now) 0 (block_of c.in-Try.body.items))) = rw c.deref-in-Try.ensures.value at c.in_err-block_at-in-Try.ensures in
    rw (is, ends) (ends_then _ _ c.in_err-block_at-in-Try.field-0.0 fails)

pub known_in-returns-in_ok-block_at-in-If : goal.known_in-returns-in_ok-block_at-in-If
known_in-returns-in_ok-block_at-in-If t c =
    let is : statement_of c.args.statement.now ≡ if_then (expression_of c.in-If.field-0) (block_of c.in-If.yes.items) (block_of c.in-If.no.items) = search (rules, the_lemmas, block_in_row) in
    let first : at (to_part 2) (known_block (flows_of c.args.file.now) 0 (block_of c.in-If.yes.items)) ≡ Ok tt = rw c.deref-in-If.ensures.value at c.in_ok-block_at-in-If.ensures in
    let second : PartGives (λ known. tt) c.block_at-in-If-2.result (at (to_part 3) (known_block (flows_of c.args.file.now) 0 (block_of c.in-If.no.items))) = rw c.deref-in-If-2.ensures.value at c.block_at-in-If-2.ensures in
    rw is (then_gives _ _ c.block_at-in-If-2.result first second)

pub known_in-returns-in_ok-block_at-in-Try : goal.known_in-returns-in_ok-block_at-in-Try
known_in-returns-in_ok-block_at-in-Try t c =
    let is : statement_of c.args.statement.now ≡ try (block_of c.in-Try.body.items) c.in-Try.field-1 (block_of c.in-Try.handler.items) = search (rules, the_lemmas, block_in_row) in
    let first : at (to_part 1) (known_block (flows_of c.args.file.now) 0 (block_of c.in-Try.body.items)) ≡ Ok tt = rw c.deref-in-Try.ensures.value at c.in_ok-block_at-in-Try.ensures in
    let second : PartGives (λ known. tt) c.block_at-in-Try-2.result (at (to_part 3) (known_block (flows_of c.args.file.now) 0 (block_of c.in-Try.handler.items))) = rw c.deref-in-Try-2.ensures.value at c.block_at-in-Try-2.ensures in
    rw is (then_gives _ _ c.block_at-in-Try-2.result first second)

pub known_in-returns-in_ok-pairs_at-in-Lock : goal.known_in-returns-in_ok-pairs_at-in-Lock
known_in-returns-in_ok-pairs_at-in-Lock t c =
    let is : statement_of c.args.statement.now ≡ lock_in (map locked_of c.in-Lock.entities.items) (block_of c.in-Lock.body.items) = search (rules, the_lemmas, block_in_row) in
    let first : at (to_part 1) (known_pairs (flows_of c.args.file.now) 0 (map locked_of c.in-Lock.entities.items)) ≡ Ok tt = rw c.deref.ensures.value at c.in_ok-pairs_at-in-Lock.ensures in
    let second : PartGives (λ known. tt) c.block_at.result (at (to_part 2) (known_block (flows_of c.args.file.now) 0 (block_of c.in-Lock.body.items))) = rw c.deref-in-Lock.ensures.value at c.block_at.ensures in
    rw is (then_gives _ _ c.block_at.result first second)

pub known_in-returns-in-While : goal.known_in-returns-in-While
known_in-returns-in-While t c =
    let is : statement_of c.args.statement.now ≡ while (expression_of c.in-While.field-0) (block_of c.in-While.body.items) = search (rules, the_lemmas, block_in_row) in
    rw is (rw c.deref-in-While.ensures.value at c.block_at-in-While.ensures)
