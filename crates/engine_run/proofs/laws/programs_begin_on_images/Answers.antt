use Rattle.engine_run.proofs.Starting.{program_begins}
use Rattle.engine_run.proofs.laws.programs_begin_on_images.Goals as goal

pub returns : goal.returns
returns c = program_begins
