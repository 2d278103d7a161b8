use Rattle.state_lines.proofs.Tables.{has_table, has_table_of_one, one_table}
use Rattle.state_lines.proofs.laws.states_have_one_table.Goals as goal

pub returns-clause-there : goal.returns-clause-there
returns-clause-there c = has_table

pub returns-clause-of_one : goal.returns-clause-of_one
returns-clause-of_one c = has_table_of_one

pub returns-clause-one : goal.returns-clause-one
returns-clause-one c = one_table
