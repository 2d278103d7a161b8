-- What holds of entries holds of those before and those behind.
use Rattle.dura_model.proofs.Appending.{given_both}
use Rattle.dura_model.proofs.laws.one_after_another.Goals as goal

pub returns-clause-given : goal.returns-clause-given
returns-clause-given c = given_both
