use Rattle.std.proofs.Common.{refl}
use Rattle.dura_codec.specs.Fields.{request_number_at}
use Rattle.dura_codec.specs.Grammar.{reply_at}
use Rattle.worked_rows.proofs.spellings.replies.Goals as goal

pub returns-clause-read : goal.returns-clause-read
unfolding request_number_at reply_at
returns-clause-read c = refl

pub returns-clause-faults : goal.returns-clause-faults
unfolding request_number_at reply_at
returns-clause-faults c = refl

pub returns-clause-spelled : goal.returns-clause-spelled
returns-clause-spelled c = refl
