use Rattle.world_examples.proofs.Judges.{new_judged, none_judged, none_stands}
use Rattle.world_examples.proofs.judged.judging_goes_through.Goals as goal

pub returns-clause-new : goal.returns-clause-new
returns-clause-new c = new_judged

pub returns-clause-none : goal.returns-clause-none
returns-clause-none c = none_judged

pub returns-clause-able : goal.returns-clause-able
returns-clause-able c = none_stands
