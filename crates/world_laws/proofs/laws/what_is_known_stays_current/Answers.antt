use Rattle.world_laws.proofs.Current.{stays_current}
use Rattle.world_laws.proofs.laws.what_is_known_stays_current.Goals as goal

pub returns : goal.returns
returns c rules mode nodes old new event answer on still known happens = stays_current rules old new known still mode nodes event answer happens
