use Rattle.world_laws.proofs.Lives.{new_life, known_on}
use Rattle.world_laws.proofs.laws.no_life_refuses.Goals as goal

pub returns : goal.returns
returns c rules mode nodes first last came why well new goes refused = (known_on rules mode nodes first came last well (new_life rules first new) goes).passed why refused
