use Rattle.std.proofs.Common.{◌≡◌, ℕ, List, length, slice_index, ap, arith}
use Rattle.dura_model.specs.Entries.{shown_by}
use Rattle.state_lines.specs.Examples.{accounts, one_entity}
use Rattle.state_lines.proofs.Few.{entity_table, classless_table}
use Rattle.state_lines.proofs.Tables.{one_table}
use Rattle.state_lines.proofs.examples.tables_with_one_entity.Goals as goal

pub returns-clause-line : goal.returns-clause-line
returns-clause-line c = entity_table

pub returns-clause-other_id : goal.returns-clause-other_id
returns-clause-other_id c = λ is.
    let wrong : 65 ≡ 66 = ap (λ (l : List ℕ). slice_index l 9) (one_table accounts (shown_by accounts one_entity) _ _ entity_table is) in omega (arith, wrong)

pub returns-clause-other_value : goal.returns-clause-other_value
returns-clause-other_value c = λ is.
    let wrong : 48 ≡ 49 = ap (λ (l : List ℕ). slice_index l 18) (one_table accounts (shown_by accounts one_entity) _ _ entity_table is) in omega (arith, wrong)

pub returns-clause-no_line_feed : goal.returns-clause-no_line_feed
returns-clause-no_line_feed c = λ is. let wrong : 20 ≡ 19 = ap length (one_table accounts (shown_by accounts one_entity) _ _ entity_table is) in omega (arith, wrong)

pub returns-clause-nothing : goal.returns-clause-nothing
returns-clause-nothing c = λ is. let wrong : 20 ≡ 0 = ap length (one_table accounts (shown_by accounts one_entity) _ _ entity_table is) in omega (arith, wrong)

pub returns-clause-no_class : goal.returns-clause-no_class
returns-clause-no_class c = classless_table
