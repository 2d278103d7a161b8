use Rattle.std.proofs.Common.{◌≡◌, ℕ, List, length, slice_index, ap, arith}
use Rattle.state_lines.specs.Examples.{accounts, two_and_one}
use Rattle.state_lines.proofs.Pairs.{table_of_two}
use Rattle.state_lines.proofs.Tables.{one_table}
use Rattle.state_lines.proofs.examples.tables_of_two.Goals as goal

pub returns-clause-line_by_line : goal.returns-clause-line_by_line
returns-clause-line_by_line c = table_of_two

pub returns-clause-one_after_another : goal.returns-clause-one_after_another
returns-clause-one_after_another c = λ is.
    let wrong : 66 ≡ 67 = ap (λ (l : List ℕ). slice_index l 29) (one_table accounts two_and_one _ _ table_of_two is) in omega (arith, wrong)

pub returns-clause-left_out : goal.returns-clause-left_out
returns-clause-left_out c = λ is. let wrong : 60 ≡ 40 = ap length (one_table accounts two_and_one _ _ table_of_two is) in omega (arith, wrong)
