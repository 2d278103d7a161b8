-- Logs with an entry, and with two, keep them.
use Rattle.std.proofs.Common.{◌≡◌, [], ◌∷◌, Some, refl, arith}
use Rattle.std.specs.Str.{is_utf8, chars}
use lib.Utf8.{encode}
use Rattle.commit_log.specs.Segment.{header_at, frame_at as framed_at}
use Rattle.dura_codec.specs.Fields.{request_number_at, several_at, run_at, count_at}
use Rattle.dura_codec.specs.Grammar.{word_size_at, name_at, key_at, text_at, scalar_at, scalars_at, value_front, value_at, id_at, reply_at, answer_at, spot_at, spot_count_at, lock_at, start_at, raise_at, query_at, wait_at, result_at, operate_at, granted_at, body_at, message_at, outcome_at}
use Rattle.dura_model.specs.Partition.{fresh}
use Rattle.dura_model.proofs.Kept.{fresh_shown}
use Rattle.dura_model.specs.Steps.{take}
use Rattle.flow_syntax.specs.Syntax.{Flows}
use Rattle.part_items.specs.Examples.{digest, two_files, empty_log, taking_log, taking, request}
use Rattle.run_rules.specs.Examples.{request_taken}
use Rattle.part_items.specs.Kept.{entries_from}
use Rattle.part_items.specs.Logs.{logs_in, entries_in, alone_with}
use Rattle.many_logs.specs.Stands.{FilesStand}
use Rattle.dura_model.proofs.Alone.{are_shown_alone}
use Rattle.run_rules.proofs.EntriesLead.{entries_lead}
use Rattle.part_items.specs.Grammar.{took_at, item_at, members_at, entry_items_at}
use Rattle.part_items.specs.Numbered.{position_at, incarnation_at, next_entry_at, next_entries_at, next_frame_at}
use Rattle.run_laws.specs.Examples.{twice_log}
use Rattle.run_rules.proofs.OneOfMany.{stands_among}

pub none_kept : entries_in (logs_in (alone_with digest) (two_files empty_log [])) ≡ Some []
unfolding header_at entries_from
none_kept = refl

pub once_kept : entries_in (logs_in (alone_with digest) (two_files taking_log [])) ≡ Some (taking 0 ∷ [])
unfolding is_utf8 chars encode request_number_at several_at run_at word_size_at name_at key_at text_at scalar_at scalars_at value_front value_at id_at reply_at answer_at spot_at spot_count_at lock_at start_at raise_at query_at wait_at result_at operate_at granted_at body_at message_at count_at outcome_at took_at item_at members_at entry_items_at position_at incarnation_at next_entry_at next_entries_at next_frame_at header_at framed_at entries_from
once_kept = refl

pub twice_kept : entries_in (logs_in (alone_with digest) (two_files twice_log [])) ≡ Some (taking 0 ∷ taking 1 ∷ [])
unfolding is_utf8 chars encode request_number_at several_at run_at word_size_at name_at key_at text_at scalar_at scalars_at value_front value_at id_at reply_at answer_at spot_at spot_count_at lock_at start_at raise_at query_at wait_at result_at operate_at granted_at body_at message_at count_at outcome_at took_at item_at members_at entry_items_at position_at incarnation_at next_entry_at next_entries_at next_frame_at header_at framed_at entries_from
twice_kept = refl

pub once_stands : (flows : Flows) → FilesStand flows 1 digest (two_files taking_log []) (take request.from 1 request ∷ [])
once_stands flows = stands_among flows digest _ _ (record {
  entries = taking 0 ∷ [];
  kept = once_kept;
  state = request_taken;
  all = refl;
  legal = (entries_lead flows (fresh 0) request_taken (taking 0 ∷ []) (are_shown_alone fresh (fresh 0) refl (fresh_shown 1)) (refl, omega arith, tt) ((tt, λ next is. tt), λ next is. tt) refl).0;
})
