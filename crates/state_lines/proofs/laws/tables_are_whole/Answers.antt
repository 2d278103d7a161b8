use Rattle.state_lines.proofs.Whole.{are_there, have_all}
use Rattle.state_lines.proofs.laws.tables_are_whole.Goals as goal

pub returns-clause-there : goal.returns-clause-there
returns-clause-there c = are_there

pub returns-clause-all : goal.returns-clause-all
returns-clause-all c = have_all
