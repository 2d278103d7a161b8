use Rattle.std.proofs.Common.{◌≡◌, length, ap, arith}
use Rattle.state_lines.specs.Examples.{accounts, one_and_none}
use Rattle.state_lines.proofs.Pairs.{table_with_none}
use Rattle.state_lines.proofs.Tables.{one_table}
use Rattle.state_lines.proofs.examples.tables_with_none.Goals as goal

pub returns-clause-line : goal.returns-clause-line
returns-clause-line c = table_with_none

pub returns-clause-nothing : goal.returns-clause-nothing
returns-clause-nothing c = λ is. let wrong : 20 ≡ 0 = ap length (one_table accounts one_and_none _ _ table_with_none is) in omega (arith, wrong)
