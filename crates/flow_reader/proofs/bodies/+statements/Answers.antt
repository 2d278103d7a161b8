-- A statement by its word, part after part. Each answer names the lemma that a search would have to find.
use Rattle.std.proofs.Common.{◌≡◌, ◌<◌, length, map, Ok, Err, refl, sym, ap, ◌∙◌, arith, rules}
use Rattle.json_tree.specs.View.{items_view, view}
use Rattle.flow_syntax.specs.Views.{block_of, expression_of, locked_of}
use Rattle.flow_syntax.specs.Syntax.{if_then, while}
use Rattle.flow_values.specs.Answers.{PartFails}
use Rattle.flow_values.specs.Faults.{at, to_part}
use Rattle.flow_reader.specs.Statements.{body_in, statements_from}
use Rattle.flow_reader.proofs.Blocks.{all, begins, ends, goes_on, if_ends, if_ends_no, if_ends_yes, if_read, known_word, lock_ends, lock_ends_body, lock_read, no_if, no_lock, no_try, no_while, try_ends, try_ends_handler, try_ends_variable, try_read, unknown_word, while_ends, while_ends_body, while_read}
use Rattle.flow_reader.proofs.bodies.+statements.Goals as goal

pub statements_in-loop-index-init : goal.statements_in-loop-index-init
statements_in-loop-index-init t c =
    rw c.in_ok-statements.ensures.items (begins c.args.inside c.args.items.now)

pub statements_in-loop-index-preserved : goal.statements_in-loop-index-preserved
statements_in-loop-index-preserved t c =
    rw c.in_ok-push-in-Ok.ensures.items (goes_on c.args.inside (statements_from c.args.inside 0 (items_view c.args.items.now)) c.loop-index.statements.items c.args.items.now c.loop-index.index c.index-items-index.result c.in-Ok.statement c.loop-index-test.true c.index-items-index.is c.loop-index.invariant c.in-Ok.ensures)

pub statements_in-returns-in-Err : goal.statements_in-returns-in-Err
statements_in-returns-in-Err t c =
    ends c.args.inside (statements_from c.args.inside 0 (items_view c.args.items.now)) c.loop-index.statements.items c.args.items.now c.loop-index.index c.index-items-index.result c.in-Err.error c.under.result c.loop-index-test.true c.index-items-index.is c.loop-index.invariant c.in-Err.ensures c.under.ensures

pub statements_in-returns : goal.statements_in-returns
statements_in-returns t c =
    all c.args.inside c.args.items.now c.loop-index.statements.items c.loop-index.index c.loop-index-test.false c.loop-index.invariant

pub array_in-returns-in-Some : goal.array_in-returns-in-Some
array_in-returns-in-Some t c =
    let some : 0 < length c.args.items.now = grind arith in
    rw (known_word c.args.inside c.args.items.now c.index-items-0.result c.in-Some.word some c.index-items-0.is c.in-Some.ensures) c.of_word.ensures

pub array_in-returns-in-None : goal.array_in-returns-in-None
array_in-returns-in-None t c =
    let some : 0 < length c.args.items.now = grind arith in
    rw (c.misshapen-in-None.ensures, unknown_word c.args.inside c.args.items.now c.index-items-0.result some c.index-items-0.is c.in-None.ensures) refl

pub of_word-returns-else-items-eq3 : goal.of_word-returns-else-items-eq3
of_word-returns-else-items-eq3 t c =
    rw (c.misshapen.ensures, c.in-Lock.is, no_lock c.args.inside c.args.items.now c.if-items-eq3.false) refl

pub of_word-returns-else-items-eq4 : goal.of_word-returns-else-items-eq4
of_word-returns-else-items-eq4 t c =
    rw (c.misshapen-else-items-eq4.ensures, c.in-If.is, no_if c.args.inside c.args.items.now c.if-items-eq4.false) refl

pub of_word-returns-else-items-eq3-2 : goal.of_word-returns-else-items-eq3-2
of_word-returns-else-items-eq3-2 t c =
    rw (c.misshapen-else-items-eq3-2.ensures, c.in-While.is, no_while c.args.inside c.args.items.now c.if-items-eq3-2.false) refl

pub of_word-returns-else-items-eq4-2 : goal.of_word-returns-else-items-eq4-2
of_word-returns-else-items-eq4-2 t c =
    rw (c.misshapen-else-items-eq4-2.ensures, c.in-Try.is, no_try c.args.inside c.args.items.now c.if-items-eq4-2.false) refl

pub lock_in-returns-in_err-entities : goal.lock_in-returns-in_err-entities
lock_in-returns-in_err-entities t c =
    let ends : c.from_residual.result ≡ Err c.in_err-entities.field-0.0 = search rules in
    rw ends (lock_ends c.args.inside c.args.items.now c.index-items-1.result c.index-items-2.result c.in_err-entities.field-0.0 c.requires c.index-items-1.is c.index-items-2.is c.in_err-entities.ensures)

pub lock_in-returns-in_err-body : goal.lock_in-returns-in_err-body
lock_in-returns-in_err-body t c =
    let ends : c.from_residual-in_err-body.result ≡ Err c.in_err-body.field-0.0 = search rules in
    rw ends (lock_ends_body c.args.inside c.args.items.now c.index-items-1.result c.index-items-2.result (map locked_of c.in_ok-entities.entities.items) c.in_err-body.field-0.0 c.requires c.index-items-1.is c.index-items-2.is c.in_ok-entities.ensures c.in_err-body.ensures)

pub lock_in-returns : goal.lock_in-returns
lock_in-returns t c =
    lock_read c.args.inside c.args.items.now c.index-items-1.result c.index-items-2.result (map locked_of c.in_ok-entities.entities.items) (block_of c.in_ok-body.body.items) c.requires c.index-items-1.is c.index-items-2.is c.in_ok-entities.ensures c.in_ok-body.ensures ∙ ap Ok (sym c.lock.ensures)

pub if_in-returns-in_err-test : goal.if_in-returns-in_err-test
if_in-returns-in_err-test t c =
    let ends : c.from_residual.result ≡ Err c.in_err-test.field-0.0 = search rules in
    rw ends (if_ends c.args.inside c.args.items.now c.index-items-1.result c.index-items-2.result c.index-items-3.result c.in_err-test.field-0.0 c.requires c.index-items-1.is c.index-items-2.is c.index-items-3.is c.in_err-test.ensures)

pub if_in-returns-in_err-yes : goal.if_in-returns-in_err-yes
if_in-returns-in_err-yes t c =
    let error = c.in_err-yes.field-0.0 in
    let ends : c.from_residual-in_err-yes.result ≡ Err error = search rules in
    let fails : PartFails error (at (to_part 2) (body_in c.args.inside (view c.index-items-2.result))) = rw c.in_err-yes.ensures.err at c.body_at.ensures in
    rw ends (if_ends_yes c.args.inside c.args.items.now c.index-items-1.result c.index-items-2.result c.index-items-3.result (expression_of c.in_ok-test.test) error c.requires c.index-items-1.is c.index-items-2.is c.index-items-3.is c.in_ok-test.ensures fails)

pub if_in-returns-in_err-no : goal.if_in-returns-in_err-no
if_in-returns-in_err-no t c =
    let error = c.in_err-no.field-0.0 in
    let ends : c.from_residual-in_err-no.result ≡ Err error = search rules in
    let read : at (to_part 2) (body_in c.args.inside (view c.index-items-2.result)) ≡ Ok (block_of c.in_ok-yes.yes.items) = rw c.in_ok-yes.ensures.ok.0 at c.body_at.ensures in
    let fails : PartFails error (at (to_part 3) (body_in c.args.inside (view c.index-items-3.result))) = rw c.in_err-no.ensures.err at c.body_at-2.ensures in
    rw ends (if_ends_no c.args.inside c.args.items.now c.index-items-1.result c.index-items-2.result c.index-items-3.result (expression_of c.in_ok-test.test) (block_of c.in_ok-yes.yes.items) error c.requires c.index-items-1.is c.index-items-2.is c.index-items-3.is c.in_ok-test.ensures read fails)

pub if_in-returns : goal.if_in-returns
if_in-returns t c =
    let same : c.in_ok-no.test ≡ c.in_ok-test.test = c.in_ok-no.ensures.ok.1 ∙ c.in_ok-yes.ensures.ok.1 in
    let read : at (to_part 2) (body_in c.args.inside (view c.index-items-2.result)) ≡ Ok (block_of c.in_ok-yes.yes.items) = rw c.in_ok-yes.ensures.ok.0 at c.body_at.ensures in
    let read_no : at (to_part 3) (body_in c.args.inside (view c.index-items-3.result)) ≡ Ok (block_of c.in_ok-no.no.items) = rw c.in_ok-no.ensures.ok.0 at c.body_at-2.ensures in
    let made = c.if_else.ensures ∙ ap (λ e. if_then (expression_of e) (block_of c.in_ok-yes.yes.items) (block_of c.in_ok-no.no.items)) same in
    if_read c.args.inside c.args.items.now c.index-items-1.result c.index-items-2.result c.index-items-3.result (expression_of c.in_ok-test.test) (block_of c.in_ok-yes.yes.items) (block_of c.in_ok-no.no.items) c.requires c.index-items-1.is c.index-items-2.is c.index-items-3.is c.in_ok-test.ensures read read_no ∙ ap Ok (sym made)

pub while_in-returns-in_err-test : goal.while_in-returns-in_err-test
while_in-returns-in_err-test t c =
    let ends : c.from_residual.result ≡ Err c.in_err-test.field-0.0 = search rules in
    rw ends (while_ends c.args.inside c.args.items.now c.index-items-1.result c.index-items-2.result c.in_err-test.field-0.0 c.requires c.index-items-1.is c.index-items-2.is c.in_err-test.ensures)

pub while_in-returns-in_err-body : goal.while_in-returns-in_err-body
while_in-returns-in_err-body t c =
    let error = c.in_err-body.field-0.0 in
    let ends : c.from_residual-in_err-body.result ≡ Err error = search rules in
    let fails : PartFails error (at (to_part 2) (body_in c.args.inside (view c.index-items-2.result))) = rw c.in_err-body.ensures.err at c.body_at.ensures in
    rw ends (while_ends_body c.args.inside c.args.items.now c.index-items-1.result c.index-items-2.result (expression_of c.in_ok-test.test) error c.requires c.index-items-1.is c.index-items-2.is c.in_ok-test.ensures fails)

pub while_in-returns : goal.while_in-returns
while_in-returns t c =
    let read : at (to_part 2) (body_in c.args.inside (view c.index-items-2.result)) ≡ Ok (block_of c.in_ok-body.body.items) = rw c.in_ok-body.ensures.ok.0 at c.body_at.ensures in
    let made = c.repeat.ensures ∙ ap (λ e. while (expression_of e) (block_of c.in_ok-body.body.items)) c.in_ok-body.ensures.ok.1 in
    while_read c.args.inside c.args.items.now c.index-items-1.result c.index-items-2.result (expression_of c.in_ok-test.test) (block_of c.in_ok-body.body.items) c.requires c.index-items-1.is c.index-items-2.is c.in_ok-test.ensures read ∙ ap Ok (sym made)

pub try_in-returns-in_err-body : goal.try_in-returns-in_err-body
try_in-returns-in_err-body t c =
    let ends : c.from_residual.result ≡ Err c.in_err-body.field-0.0 = search rules in
    rw ends (try_ends c.args.inside c.args.items.now c.index-items-1.result c.index-items-2.result c.index-items-3.result c.in_err-body.field-0.0 c.requires c.index-items-1.is c.index-items-2.is c.index-items-3.is c.in_err-body.ensures)

pub try_in-returns-in_err-variable : goal.try_in-returns-in_err-variable
try_in-returns-in_err-variable t c =
    let ends : c.from_residual-in_err-variable.result ≡ Err c.in_err-variable.field-0.0 = search rules in
    rw ends (try_ends_variable c.args.inside c.args.items.now c.index-items-1.result c.index-items-2.result c.index-items-3.result (block_of c.in_ok-body.body.items) c.in_err-variable.field-0.0 c.requires c.index-items-1.is c.index-items-2.is c.index-items-3.is c.in_ok-body.ensures c.in_err-variable.ensures)

pub try_in-returns-in_err-handler : goal.try_in-returns-in_err-handler
try_in-returns-in_err-handler t c =
    let ends : c.from_residual-in_err-handler.result ≡ Err c.in_err-handler.field-0.0 = search rules in
    rw ends (try_ends_handler c.args.inside c.args.items.now c.index-items-1.result c.index-items-2.result c.index-items-3.result (block_of c.in_ok-body.body.items) c.in_ok-variable.variable c.in_err-handler.field-0.0 c.requires c.index-items-1.is c.index-items-2.is c.index-items-3.is c.in_ok-body.ensures c.in_ok-variable.ensures c.in_err-handler.ensures)

pub try_in-returns : goal.try_in-returns
try_in-returns t c =
    try_read c.args.inside c.args.items.now c.index-items-1.result c.index-items-2.result c.index-items-3.result (block_of c.in_ok-body.body.items) c.in_ok-variable.variable (block_of c.in_ok-handler.handler.items) c.requires c.index-items-1.is c.index-items-2.is c.index-items-3.is c.in_ok-body.ensures c.in_ok-variable.ensures c.in_ok-handler.ensures ∙ ap Ok (sym c.catch.ensures)
