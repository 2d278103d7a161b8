use Rattle.node_core.proofs.Owners.{one_more_owner}
use Rattle.node_core.proofs.crew.Crew.new.Goals as goal

pub parts-preserved : goal.parts-preserved
parts-preserved c = one_more_owner c.args.nodes c.parts.part c.push.new.self.items c.parts.owners.items c.first_owner.result c.in_ok-push.ensures.items c.parts.invariant c.first_owner.ensures
