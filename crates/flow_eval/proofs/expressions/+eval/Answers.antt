use Rattle.std.proofs.Common.{◌≡◌, rules}
use Rattle.flow_syntax.specs.declared.syntax.Expr.TheViews.{the_lemmas}
use Rattle.flow_syntax.specs.Syntax.{list}
use Rattle.flow_syntax.specs.Views.{expression_of, parts_of}
use Rattle.flow_syntax.proofs.Rows.{parts_in_row}
use Rattle.flow_eval.proofs.expressions.+eval.Goals as goal

pub eval-returns-in-List : goal.eval-returns-in-List
eval-returns-in-List t c =
    let is : expression_of c.args.expression.now ≡ list (parts_of c.in-List.parts.items) = search (rules, the_lemmas, parts_in_row) in
    rw is (rw c.deref.ensures.value at c.eval_list.ensures)
