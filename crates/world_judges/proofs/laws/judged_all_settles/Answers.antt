use Rattle.world_judges.proofs.Judged.{all_settles}
use Rattle.world_judges.proofs.laws.judged_all_settles.Goals as goal

pub returns : goal.returns
returns c rules mode nodes made old new well known judges on are = all_settles rules mode nodes made old new well known judges on are
