use Rattle.std.proofs.Common.{◌≡◌, ℕ, refl, ap, arith}
use Rattle.std.specs.Str.{is_utf8, chars}
use lib.Utf8.{encode}
use Rattle.dura_codec.specs.Fields.{request_number_at, several_at, run_at, count_at}
use Rattle.dura_codec.specs.Grammar.{word_size_at, name_at, key_at, text_at, scalar_at, scalars_at, value_front, value_at, id_at, reply_at, answer_at, spot_at, spot_count_at, lock_at, start_at, raise_at, query_at, wait_at, result_at, operate_at, granted_at, body_at, message_at, outcome_at}
use Rattle.part_items.specs.Grammar.{took_at, got_at, ran_at, done_at, fired_at, trim_at, item_at, members_at, entry_items_at}
use Rattle.part_items.specs.Numbered.{Next, position_at, incarnation_at, next_entry_at, next_entries_at, next_frame_at}
use Rattle.worked_rows.proofs.spellings.next_entries.Goals as goal

pub returns-clause-begun : goal.returns-clause-begun
unfolding is_utf8 chars encode request_number_at several_at run_at word_size_at name_at key_at text_at scalar_at scalars_at value_front value_at id_at reply_at answer_at spot_at spot_count_at lock_at start_at raise_at query_at wait_at result_at operate_at granted_at body_at message_at count_at outcome_at took_at got_at ran_at done_at fired_at trim_at item_at members_at entry_items_at position_at incarnation_at next_entry_at next_entries_at next_frame_at
returns-clause-begun c = (refl, omega arith, refl)

pub returns-clause-not_left_out : goal.returns-clause-not_left_out
returns-clause-not_left_out c = λ h. let at : ◌≡◌ {A = ℕ} 6 5 = ap (λ (n : Next). n.position) h.0 in absurd (omega (arith, at))

pub returns-clause-not_so_many : goal.returns-clause-not_so_many
returns-clause-not_so_many c = λ h. absurd (omega (arith, h.1))

pub returns-clause-followed : goal.returns-clause-followed
unfolding is_utf8 chars encode request_number_at several_at run_at word_size_at name_at key_at text_at scalar_at scalars_at value_front value_at id_at reply_at answer_at spot_at spot_count_at lock_at start_at raise_at query_at wait_at result_at operate_at granted_at body_at message_at count_at outcome_at took_at got_at ran_at done_at fired_at trim_at item_at members_at entry_items_at position_at incarnation_at next_entry_at next_entries_at next_frame_at
returns-clause-followed c = (refl, omega arith, refl)

pub returns-clause-first : goal.returns-clause-first
returns-clause-first c = record { is_next = (refl, omega arith, omega arith, omega arith); behind = refl; left = refl; entries = refl }

pub returns-clause-before_a_fault : goal.returns-clause-before_a_fault
returns-clause-before_a_fault c = record { is_next = (refl, omega arith, omega arith, omega arith); behind = refl; left = refl; entries = refl }

pub returns-clause-not_second : goal.returns-clause-not_second
returns-clause-not_second c = λ h. let at = h.is_next.0 in absurd (omega (arith, at))

pub returns-clause-not_both : goal.returns-clause-not_both
returns-clause-not_both c = λ h. let left = h.left in absurd (omega (arith, left))

pub returns-clause-end : goal.returns-clause-end
returns-clause-end c = (refl, refl)

pub returns-clause-not_the_end : goal.returns-clause-not_the_end
returns-clause-not_the_end c = λ h. absurd (cc h.0)

pub returns-clause-fault : goal.returns-clause-fault
returns-clause-fault c = (refl, refl)

pub returns-clause-no_other_fault : goal.returns-clause-no_other_fault
returns-clause-no_other_fault c = λ h. let at : ◌≡◌ {A = ℕ} 62 61 = cc h.0 in absurd (omega (arith, at))
