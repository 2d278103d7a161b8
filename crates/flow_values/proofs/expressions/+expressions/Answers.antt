-- The parts of an array and of an operation. Each answer names the lemma that a search would have to find.
use Rattle.std.proofs.Common.{◌≡◌, ◌∙◌, sym, Err, refl, rules}
use Rattle.serde_json.specs.Data.{array}
use Rattle.json_tree.specs.View.{view, items_view}
use Rattle.json_tree.proofs.Parts.{view_of_array}
use Rattle.flow_syntax.specs.Views.{expression_of, parts_of}
use Rattle.flow_syntax.specs.declared.syntax.Expr.TheViews.{the_lemmas}
use Rattle.flow_values.specs.Expressions.{expressions_from}
use Rattle.flow_values.proofs.Parts.{all, begins, binary_ends, binary_ends_second, binary_read, binary_unknown, ends, goes_on, list_ends, list_read, no_member, no_operation, operation_ends, operation_read, unary_ends, unary_read, unary_unknown, variable_ends, variable_read}
use Rattle.flow_values.proofs.expressions.+expressions.Goals as goal

pub operation_in-returns-else-items-eq3 : goal.operation_in-returns-else-items-eq3
operation_in-returns-else-items-eq3 t c =
    let is : view c.args.value.now ≡ array (items_view c.in-Array.items.now) = search (rules, view_of_array) in
    rw (c.misshapen.ensures, is) (no_operation c.in-Array.items.now c.if-items-eq2.false c.if-items-eq3.false)

pub parts_in-loop-index-init : goal.parts_in-loop-index-init
parts_in-loop-index-init t c =
    rw c.in_ok-parts.ensures.items (begins c.args.items.now)

pub parts_in-loop-index-preserved : goal.parts_in-loop-index-preserved
parts_in-loop-index-preserved t c =
    rw c.in_ok-push-in-Ok.ensures.items (goes_on (expressions_from 0 (items_view c.args.items.now)) c.loop-index.parts.items c.args.items.now c.loop-index.index c.index-items-index.result c.in-Ok.part c.loop-index-test.true c.index-items-index.is c.loop-index.invariant c.in-Ok.ensures)

pub parts_in-returns-in-Err : goal.parts_in-returns-in-Err
parts_in-returns-in-Err t c =
    ends (expressions_from 0 (items_view c.args.items.now)) c.loop-index.parts.items c.args.items.now c.loop-index.index c.index-items-index.result c.in-Err.error c.under.result c.loop-index-test.true c.index-items-index.is c.loop-index.invariant c.in-Err.ensures c.under.ensures

pub parts_in-returns : goal.parts_in-returns
parts_in-returns t c =
    all c.args.items.now c.loop-index.parts.items c.loop-index.index c.loop-index-test.false c.loop-index.invariant

pub unary_of-returns-in_err-only-in-Some : goal.unary_of-returns-in_err-only-in-Some
unary_of-returns-in_err-only-in-Some t c =
    let ends_here : c.from_residual.result ≡ Err c.in_err-only-in-Some.field-0.0 = search rules in
    rw ends_here (unary_ends c.args.items.now c.index-items-0.result c.index-items-1.result c.in-Some.operation c.in_err-only-in-Some.field-0.0 c.requires c.index-items-0.is c.index-items-1.is c.in-Some.ensures c.in_err-only-in-Some.ensures)

pub unary_of-returns-in-None : goal.unary_of-returns-in-None
unary_of-returns-in-None t c =
    rw (c.misshapen.ensures, unary_unknown c.args.items.now c.index-items-0.result c.index-items-1.result c.requires c.index-items-0.is c.index-items-1.is c.in-None.ensures) refl

pub unary_of-returns-in_ok-new-in-Some : goal.unary_of-returns-in_ok-new-in-Some
unary_of-returns-in_ok-new-in-Some t c =
    rw (unary_read c.args.items.now c.index-items-0.result c.index-items-1.result c.in-Some.operation (expression_of c.in_ok-only-in-Some.only) c.requires c.index-items-0.is c.index-items-1.is c.in-Some.ensures c.in_ok-only-in-Some.ensures) (search (rules, the_lemmas))

pub binary_of-returns-in_err-first-in-Some : goal.binary_of-returns-in_err-first-in-Some
binary_of-returns-in_err-first-in-Some t c =
    let ends_here : c.from_residual.result ≡ Err c.in_err-first-in-Some.field-0.0 = search rules in
    rw ends_here (binary_ends c.args.items.now c.index-items-0.result c.index-items-1.result c.index-items-2.result c.in-Some.operation c.in_err-first-in-Some.field-0.0 c.requires c.index-items-0.is c.index-items-1.is c.index-items-2.is c.in-Some.ensures c.in_err-first-in-Some.ensures)

pub binary_of-returns-in_err-second-in-Some : goal.binary_of-returns-in_err-second-in-Some
binary_of-returns-in_err-second-in-Some t c =
    let ends_here : c.from_residual-in_err-second-in-Some.result ≡ Err c.in_err-second-in-Some.field-0.0 = search rules in
    rw ends_here (binary_ends_second c.args.items.now c.index-items-0.result c.index-items-1.result c.index-items-2.result c.in-Some.operation (expression_of c.in_ok-first-in-Some.first) c.in_err-second-in-Some.field-0.0 c.requires c.index-items-0.is c.index-items-1.is c.index-items-2.is c.in-Some.ensures c.in_ok-first-in-Some.ensures c.in_err-second-in-Some.ensures)

pub binary_of-returns-in-None : goal.binary_of-returns-in-None
binary_of-returns-in-None t c =
    rw (c.misshapen.ensures, binary_unknown c.args.items.now c.index-items-0.result c.index-items-1.result c.index-items-2.result c.requires c.index-items-0.is c.index-items-1.is c.index-items-2.is c.in-None.ensures) refl

pub binary_of-returns-in_ok-second-in-Some-2 : goal.binary_of-returns-in_ok-second-in-Some-2
binary_of-returns-in_ok-second-in-Some-2 t c =
    rw (binary_read c.args.items.now c.index-items-0.result c.index-items-1.result c.index-items-2.result c.in-Some.operation (expression_of c.in_ok-first-in-Some.first) (expression_of c.in_ok-second-in-Some.second) c.requires c.index-items-0.is c.index-items-1.is c.index-items-2.is c.in-Some.ensures c.in_ok-first-in-Some.ensures c.in_ok-second-in-Some.ensures) (search (rules, the_lemmas))

pub member_in-returns-in-Err : goal.member_in-returns-in-Err
member_in-returns-in-Err t c =
    variable_ends c.args.key.now (view c.args.inside.now) c.in-Err.error c.under.result (sym c.eq.ensures ∙ c.if-eq.true) c.in-Err.ensures c.under.ensures

pub member_in-returns-in-Err-list_in : goal.member_in-returns-in-Err-list_in
member_in-returns-in-Err-list_in t c =
    list_ends c.args.key.now (view c.args.inside.now) c.in-Err-list_in.error c.under-in-Err-list_in.result (sym c.eq.ensures ∙ c.if-eq.false) (sym c.eq-else-eq.ensures ∙ c.if-eq-2.true) c.in-Err-list_in.ensures c.under-in-Err-list_in.ensures

pub member_in-returns-in-Err-operation_in : goal.member_in-returns-in-Err-operation_in
member_in-returns-in-Err-operation_in t c =
    operation_ends c.args.key.now (view c.args.inside.now) c.in-Err-operation_in.error c.under-in-Err-operation_in.result (sym c.eq.ensures ∙ c.if-eq.false) (sym c.eq-else-eq.ensures ∙ c.if-eq-2.false) (sym c.eq-else-eq-2.ensures ∙ c.if-eq-3.true) c.in-Err-operation_in.ensures c.under-in-Err-operation_in.ensures

pub member_in-returns-in-Ok : goal.member_in-returns-in-Ok
member_in-returns-in-Ok t c =
    rw (variable_read c.args.key.now (view c.args.inside.now) c.in-Ok.name (sym c.eq.ensures ∙ c.if-eq.true) c.in-Ok.ensures) (search (rules, the_lemmas))

pub member_in-returns-in-Ok-list_in : goal.member_in-returns-in-Ok-list_in
member_in-returns-in-Ok-list_in t c =
    rw (list_read c.args.key.now (view c.args.inside.now) (parts_of c.in-Ok-list_in.parts.items) (sym c.eq.ensures ∙ c.if-eq.false) (sym c.eq-else-eq.ensures ∙ c.if-eq-2.true) c.in-Ok-list_in.ensures) (search (rules, the_lemmas))

pub member_in-returns-in-Ok-operation_in : goal.member_in-returns-in-Ok-operation_in
member_in-returns-in-Ok-operation_in t c =
    operation_read c.args.key.now (view c.args.inside.now) (expression_of c.in-Ok-operation_in.operation) (sym c.eq.ensures ∙ c.if-eq.false) (sym c.eq-else-eq.ensures ∙ c.if-eq-2.false) (sym c.eq-else-eq-2.ensures ∙ c.if-eq-3.true) c.in-Ok-operation_in.ensures

pub member_in-returns-else-eq-3 : goal.member_in-returns-else-eq-3
member_in-returns-else-eq-3 t c =
    rw (c.misshapen.ensures, no_member c.args.key.now (view c.args.inside.now) (sym c.eq.ensures ∙ c.if-eq.false) (sym c.eq-else-eq.ensures ∙ c.if-eq-2.false) (sym c.eq-else-eq-2.ensures ∙ c.if-eq-3.false)) refl
