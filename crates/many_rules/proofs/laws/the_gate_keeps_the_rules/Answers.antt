use Rattle.many_rules.proofs.GateMoments.{every_moment}
use Rattle.many_rules.proofs.laws.the_gate_keeps_the_rules.Goals as goal

pub returns : goal.returns
returns c o rules latest now trail made numbered every = every_moment rules made numbered latest o now trail every
