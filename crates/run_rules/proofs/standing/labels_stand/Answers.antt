use Rattle.run_rules.proofs.LabelsStand.{labels_stand}
use Rattle.run_rules.proofs.standing.labels_stand.Goals as goal

pub returns : goal.returns
returns c = labels_stand
