-- A log with an entry keeps it.
use Rattle.std.proofs.Common.{refl}
use Rattle.std.specs.Str.{is_utf8, chars}
use lib.Utf8.{encode}
use Rattle.commit_log.specs.Segment.{header_at, frame_at as framed_at}
use Rattle.dura_codec.specs.Fields.{request_number_at, several_at, run_at, count_at}
use Rattle.dura_codec.specs.Grammar.{word_size_at, name_at, key_at, text_at, scalar_at, scalars_at, value_front, value_at, id_at, reply_at, answer_at, spot_at, spot_count_at, lock_at, start_at, raise_at, query_at, wait_at, result_at, operate_at, granted_at, body_at, message_at, outcome_at}
use Rattle.part_items.specs.Grammar.{took_at, item_at, members_at, entry_items_at}
use Rattle.part_items.specs.Numbered.{position_at, incarnation_at, next_entry_at, next_entries_at, next_frame_at}
use Rattle.part_items.specs.Kept.{entries_from}
use Rattle.part_items.specs.Examples.{AreLogs, frame_logs}

pub frames_kept : AreLogs frame_logs
unfolding is_utf8 chars encode request_number_at several_at run_at word_size_at name_at key_at text_at scalar_at scalars_at value_front value_at id_at reply_at answer_at spot_at spot_count_at lock_at start_at raise_at query_at wait_at result_at operate_at granted_at body_at message_at count_at outcome_at took_at item_at members_at entry_items_at position_at incarnation_at next_entry_at next_entries_at next_frame_at header_at framed_at entries_from
frames_kept = refl
