use Rattle.std.proofs.Common.{◌≡◌, ℕ, List, length, slice_index, ap, arith}
use Rattle.dura_model.specs.Entries.{shown_by}
use Rattle.state_lines.specs.Examples.{accounts, both_kinds}
use Rattle.state_lines.proofs.Few.{table_of_both}
use Rattle.state_lines.proofs.Tables.{one_table}
use Rattle.state_lines.proofs.examples.tables_with_both.Goals as goal

pub returns-clause-both : goal.returns-clause-both
returns-clause-both c = table_of_both

pub returns-clause-other_order : goal.returns-clause-other_order
returns-clause-other_order c = λ is.
    let wrong : 64 ≡ 83 = ap (λ (l : List ℕ). slice_index l 0) (one_table accounts (shown_by accounts both_kinds) _ _ table_of_both is) in omega (arith, wrong)

pub returns-clause-left_out : goal.returns-clause-left_out
returns-clause-left_out c = λ is. let wrong : 34 ≡ 20 = ap length (one_table accounts (shown_by accounts both_kinds) _ _ table_of_both is) in omega (arith, wrong)
