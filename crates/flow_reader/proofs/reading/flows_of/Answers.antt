use Rattle.std.proofs.Common.{refl}
use Rattle.flow_reader.proofs.reading.flows_of.Goals as goal

pub returns : goal.returns
returns c = tt

pub returns-in-Ok : goal.returns-in-Ok
returns-in-Ok c = tt

pub returns-in-Ok-known_file : goal.returns-in-Ok-known_file
returns-in-Ok-known_file c = rw (c.in-Ok.ensures, c.in-Ok-known_file.ensures) refl
