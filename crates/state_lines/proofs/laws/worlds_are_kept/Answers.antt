use Rattle.state_lines.proofs.Kept.{entities_kept, instances_kept}
use Rattle.state_lines.proofs.laws.worlds_are_kept.Goals as goal

pub returns-clause-entities : goal.returns-clause-entities
returns-clause-entities c = entities_kept

pub returns-clause-instances : goal.returns-clause-instances
returns-clause-instances c = instances_kept
