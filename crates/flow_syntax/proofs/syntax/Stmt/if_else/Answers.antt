use Rattle.std.proofs.Common.{rules}
use Rattle.flow_syntax.specs.declared.syntax.Stmt.TheViews.{the_lemmas}
use Rattle.flow_syntax.proofs.Rows.{block_in_row}
use Rattle.flow_syntax.proofs.syntax.Stmt.if_else.Goals as goal

pub returns : goal.returns
returns c = search (rules, the_lemmas, block_in_row)
