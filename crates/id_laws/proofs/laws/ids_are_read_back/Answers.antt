use Rattle.id_laws.proofs.IdsBack.{written_is_read, read_is_written}
use Rattle.id_laws.proofs.laws.ids_are_read_back.Goals as goal

pub returns-clause-written : goal.returns-clause-written
returns-clause-written c = written_is_read

pub returns-clause-read : goal.returns-clause-read
returns-clause-read c = read_is_written
