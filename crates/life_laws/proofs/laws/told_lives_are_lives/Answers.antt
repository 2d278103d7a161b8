use Rattle.life_laws.proofs.Starting.{one_life}
use Rattle.life_laws.proofs.laws.told_lives_are_lives.Goals as goal

pub returns : goal.returns
returns g c flows count digest mode nodes old new done came trail moment site = one_life flows count digest mode nodes old new done came trail moment (g.V.Site.tells site)
