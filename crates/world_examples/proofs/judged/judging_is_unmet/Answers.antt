use Rattle.world_examples.proofs.Judges.{over_unjudged, over_unmet, over_ill, over_remembers, well_then, not_kept, unknown_unmet, unknown_unjudged}
use Rattle.world_examples.proofs.judged.judging_is_unmet.Goals as goal

pub returns-clause-over : goal.returns-clause-over
returns-clause-over c = over_unjudged

pub returns-clause-behind : goal.returns-clause-behind
returns-clause-behind c = over_unmet

pub returns-clause-well : goal.returns-clause-well
returns-clause-well c = well_then

pub returns-clause-judged : goal.returns-clause-judged
returns-clause-judged c = not_kept

pub returns-clause-unknown : goal.returns-clause-unknown
returns-clause-unknown c = unknown_unmet

pub returns-clause-unknown_yet : goal.returns-clause-unknown_yet
returns-clause-unknown_yet c = unknown_unjudged

pub returns-clause-ill : goal.returns-clause-ill
returns-clause-ill c = over_ill

pub returns-clause-memory : goal.returns-clause-memory
returns-clause-memory c = over_remembers
