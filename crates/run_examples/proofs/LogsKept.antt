-- What the logs of single directories keep, by computation.
use Rattle.std.proofs.Common.{◌≡◌, [], ◌∷◌, Some, refl}
use Rattle.std.specs.Str.{is_utf8, chars}
use lib.Utf8.{encode}
use Rattle.commit_log.specs.Segment.{header_at, frame_at as framed_at}
use Rattle.dura_codec.specs.Fields.{request_number_at, several_at, run_at, count_at}
use Rattle.dura_codec.specs.Grammar.{word_size_at, name_at, key_at, text_at, scalar_at, scalars_at, value_front, value_at, id_at, reply_at, answer_at, spot_at, spot_count_at, lock_at, start_at, raise_at, query_at, wait_at, result_at, operate_at, granted_at, body_at, message_at, outcome_at}
use Rattle.dura_value.specs.Digest.{fnv1a_64}
use Rattle.part_items.specs.Examples.{digest, empty_log, taking}
use Rattle.part_items.specs.Kept.{entries_from}
use Rattle.part_items.specs.Logs.{refused, other_flows, logs_in, entries_in, alone_with}
use Rattle.part_items.specs.Grammar.{took_at, item_at, members_at, entry_items_at}
use Rattle.part_items.specs.Numbered.{position_at, incarnation_at, next_entry_at, next_entries_at, next_frame_at}
use Rattle.run_examples.specs.Directories.{directory, earlier_log, torn_log}
use Rattle.run_inputs.specs.Examples.{flows_bytes, requests_bytes, good_files}

pub fresh_kept : entries_in (logs_in (alone_with (fnv1a_64 flows_bytes)) good_files) ≡ Some []
unfolding header_at entries_from
fresh_kept = refl

pub torn_kept : entries_in (logs_in (alone_with (fnv1a_64 flows_bytes)) (directory requests_bytes torn_log)) ≡ Some []
unfolding header_at entries_from
torn_kept = refl

pub other_kept : logs_in (alone_with (fnv1a_64 flows_bytes)) (directory requests_bytes empty_log) ≡ refused (other_flows digest)
unfolding header_at entries_from
other_kept = refl

pub earlier_kept : entries_in (logs_in (alone_with (fnv1a_64 flows_bytes)) (directory requests_bytes earlier_log)) ≡ Some (taking 0 ∷ [])
unfolding is_utf8 chars encode request_number_at several_at run_at word_size_at name_at key_at text_at scalar_at scalars_at value_front value_at id_at reply_at answer_at spot_at spot_count_at lock_at start_at raise_at query_at wait_at result_at operate_at granted_at body_at message_at count_at outcome_at took_at item_at members_at entry_items_at position_at incarnation_at next_entry_at next_entries_at next_frame_at header_at framed_at entries_from
earlier_kept = refl
