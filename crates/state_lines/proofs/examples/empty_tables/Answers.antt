use Rattle.std.proofs.Common.{◌≡◌, ◌++◌, [], ◌∷◌, codes}
use Rattle.dura_model.specs.Entries.{shown_by}
use Rattle.dura_model.specs.Partition.{fresh}
use Rattle.state_lines.proofs.Few.{empty_table}
use Rattle.state_lines.proofs.Tables.{one_table}
use Rattle.state_lines.proofs.examples.empty_tables.Goals as goal

pub returns-clause-empty : goal.returns-clause-empty
returns-clause-empty c = empty_table

pub returns-clause-some : goal.returns-clause-some
returns-clause-some c = λ flows is. let same : [] ≡ codes "@Account/A value 90" ++ 10 ∷ [] = one_table flows (shown_by flows (fresh 0)) _ _ (empty_table flows) is in cc same
