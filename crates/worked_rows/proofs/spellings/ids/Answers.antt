use Rattle.std.proofs.Common.{refl}
use Rattle.dura_codec.specs.Fields.{run_at}
use Rattle.dura_codec.specs.Grammar.{word_size_at, name_at, key_at, id_at}
use Rattle.worked_rows.proofs.spellings.ids.Goals as goal

pub returns-clause-read : goal.returns-clause-read
unfolding run_at word_size_at name_at key_at id_at
returns-clause-read c = refl

pub returns-clause-faults : goal.returns-clause-faults
unfolding run_at word_size_at name_at key_at id_at
returns-clause-faults c = refl

pub returns-clause-spelled : goal.returns-clause-spelled
returns-clause-spelled c = refl
