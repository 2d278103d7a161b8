use Rattle.run_examples.proofs.Clocks.{one_frame, one_too_many}
use Rattle.run_examples.proofs.clock_examples.labels_are_few.Goals as goal

pub returns-clause-frame : goal.returns-clause-frame
returns-clause-frame c = one_frame

pub returns-clause-more : goal.returns-clause-more
returns-clause-more c = one_too_many
