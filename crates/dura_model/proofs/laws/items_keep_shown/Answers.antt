-- The entry goes on.
use Rattle.dura_model.proofs.Kept.{item_stands}
use Rattle.dura_model.proofs.laws.items_keep_shown.Goals as goal

pub returns-clause-entry : goal.returns-clause-entry
returns-clause-entry c = item_stands
