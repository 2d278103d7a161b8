use Rattle.site_calls.proofs.FirstSteps.{held, held_none}
use Rattle.site_calls.proofs.laws.a_file_reads_as_it_was_held.Goals as goal

pub returns : goal.returns
returns c = record { held = held; none = held_none }
