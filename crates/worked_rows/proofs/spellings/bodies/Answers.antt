use Rattle.std.proofs.Common.{refl}
use Rattle.dura_codec.specs.Fields.{request_number_at, several_at, run_at}
use Rattle.dura_codec.specs.Grammar.{word_size_at, name_at, key_at, text_at, scalar_at, scalars_at, value_front, value_at, id_at, reply_at, answer_at, spot_at, spot_count_at, lock_at, start_at, raise_at, query_at, wait_at, result_at, operate_at, granted_at, body_at}
use Rattle.worked_rows.proofs.spellings.bodies.Goals as goal

pub returns-clause-read : goal.returns-clause-read
unfolding request_number_at several_at run_at word_size_at name_at key_at text_at scalar_at scalars_at value_front value_at id_at reply_at answer_at spot_at spot_count_at lock_at start_at raise_at query_at wait_at result_at operate_at granted_at body_at
returns-clause-read c = refl

pub returns-clause-faults : goal.returns-clause-faults
unfolding request_number_at several_at run_at word_size_at name_at key_at text_at scalar_at scalars_at value_front value_at id_at reply_at answer_at spot_at spot_count_at lock_at start_at raise_at query_at wait_at result_at operate_at granted_at body_at
returns-clause-faults c = refl

pub returns-clause-spelled : goal.returns-clause-spelled
returns-clause-spelled c = refl
