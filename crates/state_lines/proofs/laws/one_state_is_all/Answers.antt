use Rattle.state_lines.proofs.Alone.{one_is_all, one_shows}
use Rattle.state_lines.proofs.laws.one_state_is_all.Goals as goal

pub returns-clause-all : goal.returns-clause-all
returns-clause-all c = one_is_all

pub returns-clause-shows : goal.returns-clause-shows
returns-clause-shows c = one_shows
