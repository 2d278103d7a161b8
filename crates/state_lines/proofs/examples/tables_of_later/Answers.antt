use Rattle.std.proofs.Common.{◌≡◌, ℕ, List, slice_index, ap, arith}
use Rattle.state_lines.specs.Examples.{accounts, later_first}
use Rattle.state_lines.proofs.Pairs.{table_of_later}
use Rattle.state_lines.proofs.Tables.{one_table}
use Rattle.state_lines.proofs.examples.tables_of_later.Goals as goal

pub returns-clause-second_first : goal.returns-clause-second_first
returns-clause-second_first c = table_of_later

pub returns-clause-first_first : goal.returns-clause-first_first
returns-clause-first_first c = λ is.
    let wrong : 66 ≡ 67 = ap (λ (l : List ℕ). slice_index l 9) (one_table accounts later_first _ _ table_of_later is) in omega (arith, wrong)

pub returns-clause-by_partition : goal.returns-clause-by_partition
returns-clause-by_partition c = λ is.
    let wrong : 64 ≡ 83 = ap (λ (l : List ℕ). slice_index l 20) (one_table accounts later_first _ _ table_of_later is) in omega (arith, wrong)
