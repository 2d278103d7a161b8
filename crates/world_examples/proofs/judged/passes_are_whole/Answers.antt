use Rattle.world_examples.proofs.Judges.{no_cell, nothing_changed, one_cell, first_kept, no_second}
use Rattle.world_examples.proofs.judged.passes_are_whole.Goals as goal

pub returns-clause-nothing : goal.returns-clause-nothing
returns-clause-nothing c = no_cell

pub returns-clause-same : goal.returns-clause-same
returns-clause-same c = nothing_changed

pub returns-clause-one : goal.returns-clause-one
returns-clause-one c = one_cell

pub returns-clause-past : goal.returns-clause-past
returns-clause-past c = no_second

pub returns-clause-given_up : goal.returns-clause-given_up
returns-clause-given_up c = first_kept
