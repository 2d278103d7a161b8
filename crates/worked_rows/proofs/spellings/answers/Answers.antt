use Rattle.std.proofs.Common.{refl}
use Rattle.std.specs.Str.{is_utf8, chars}
use lib.Utf8.{encode}
use Rattle.dura_codec.specs.Fields.{several_at, run_at}
use Rattle.dura_codec.specs.Grammar.{text_at, scalar_at, scalars_at, value_front, value_at, answer_at}
use Rattle.worked_rows.proofs.spellings.answers.Goals as goal

pub returns-clause-read : goal.returns-clause-read
unfolding is_utf8 chars encode several_at run_at text_at scalar_at scalars_at value_front value_at answer_at
returns-clause-read c = refl

pub returns-clause-faults : goal.returns-clause-faults
unfolding is_utf8 chars encode several_at run_at text_at scalar_at scalars_at value_front value_at answer_at
returns-clause-faults c = refl

pub returns-clause-spelled : goal.returns-clause-spelled
returns-clause-spelled c = refl
