use Rattle.std.proofs.Common.{rules}
use Rattle.flow_syntax.specs.declared.syntax.Expr.TheViews.{the_lemmas}
use Rattle.flow_syntax.proofs.Rows.{parts_in_row}
use Rattle.flow_syntax.proofs.syntax.Expr.list.Goals as goal

pub returns : goal.returns
returns c = search (rules, the_lemmas, parts_in_row)
