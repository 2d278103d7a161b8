use Rattle.state_lines.proofs.Tables.{front_of_table}
use Rattle.state_lines.proofs.laws.fronts_begin_tables.Goals as goal

pub returns : goal.returns
returns c = front_of_table
