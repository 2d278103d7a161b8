-- What one list has, and what the files of two partitions keep.
use Rattle.std.proofs.Common.{◌≡◌, ◌<◌, ℕ, zero, suc, List, [], ◌∷◌, Some, refl, subst, arith}
use Rattle.std.specs.List.{Contains, slice_index_or}
use Rattle.std.specs.Str.{is_utf8, chars}
use lib.Utf8.{encode}
use Rattle.commit_log.specs.Segment.{header_at, frame_at as framed_at}
use Rattle.dura_codec.specs.Fields.{request_number_at, several_at, run_at, count_at}
use Rattle.dura_codec.specs.Grammar.{word_size_at, name_at, key_at, text_at, scalar_at, scalars_at, value_front, value_at, id_at, reply_at, answer_at, spot_at, spot_count_at, lock_at, start_at, raise_at, query_at, wait_at, result_at, operate_at, granted_at, body_at, message_at, outcome_at}
use Rattle.dura_model.specs.Partition.{fresh}
use Rattle.dura_value.specs.Items.{Identity, Entry}
use Rattle.flow_syntax.specs.Syntax.{Flows}
use Rattle.many_examples.specs.Placings.{states_of, one_file, taken_of, taking_x}
use Rattle.many_logs.specs.Placing.{of_partition, placed, HasPlaced, IsStuck}
use Rattle.many_logs.specs.Stands.{asked_at, FilesStand, AreKept}
use Rattle.many_logs.specs.Labels.{labels_of_commits}
use Rattle.many_logs.proofs.OrdersStand.{orders_stand}
use Rattle.many_logs.proofs.Orders.{any_order_so_far}
use Rattle.part_items.specs.Examples.{digest, taking}
use Rattle.part_items.specs.Grammar.{took_at, item_at, members_at, entry_items_at}
use Rattle.part_items.specs.Kept.{entries_from}
use Rattle.part_items.specs.Logs.{logs_in, entries_in}
use Rattle.part_items.specs.Numbered.{position_at, incarnation_at, next_entry_at, next_entries_at, next_frame_at}

-- a list of one has no other
pub only : (one other : Identity) → Contains (one ∷ []) other → one ≡ other
only one other of_it = let first : of_it.0 ≡ 0 = omega (arith, of_it.1) in subst (λ (k : ℕ). slice_index_or (one ∷ []) k other ≡ other) first of_it.2

-- an empty list has none
pub none_in : (other : Identity) → Contains [] other → ⊥
none_in other of_it = omega (arith, of_it.1)

-- what is said of partitions 0 and 1
pub of_two : (P : ℕ → Type 0) → P 0 → P 1 → (partition : ℕ) → partition < 2 → P partition
of_two P first second zero below = first
of_two P first second (suc zero) below = second
of_two P first second (suc (suc more)) below = absurd (omega (arith, below))

-- ---- files

first_kept : entries_in (logs_in (asked_at 2 digest 0) (one_file 20 (taken_of 1))) ≡ Some []
unfolding header_at entries_from
first_kept = refl

-- the log of partition 1 keeps the request
pub second_kept : entries_in (logs_in (asked_at 2 digest 1) (one_file 20 (taken_of 1))) ≡ Some (taking 0 ∷ [])
unfolding is_utf8 chars encode request_number_at several_at run_at word_size_at name_at key_at text_at scalar_at scalars_at value_front value_at id_at reply_at answer_at spot_at spot_count_at lock_at start_at raise_at query_at wait_at result_at operate_at granted_at body_at message_at count_at outcome_at took_at item_at members_at entry_items_at position_at incarnation_at next_entry_at next_entries_at next_frame_at header_at framed_at entries_from
second_kept = refl

-- of the request that its own partition took, each keeps its own
pub taken_kept : (partition : ℕ) → partition < 2 → entries_in (logs_in (asked_at 2 digest partition) (one_file 20 (taken_of 1))) ≡ Some (of_partition partition (taking_x ∷ []))
taken_kept = of_two _ first_kept second_kept

pub taken_are_kept : (flows : Flows) → AreKept flows 2 digest (one_file 20 (taken_of 1)) (taking_x ∷ [])
taken_are_kept flows = record {
  below = (omega arith, tt);
  kept = taken_kept;
  states = states_of flows (taking_x ∷ []);
  made = refl;
  given = ((tt, λ next is. tt), λ next is. tt);
}

-- they stand for the run in which it is taken
pub taken_stands : (flows : Flows) → FilesStand flows 2 digest (one_file 20 (taken_of 1)) (labels_of_commits (taking_x ∷ []))
taken_stands flows =
    let kept = taken_are_kept flows in
    orders_stand flows 2 digest _ (taking_x ∷ []) kept.states kept.below kept.kept kept.made kept.given

-- files that aren't there stand for a run in which nothing happened
pub none_stand : (flows : Flows) → FilesStand flows 2 digest (λ file. []) []
none_stand flows = record { logs = λ partition. []; kept = λ partition below. refl; none_left = λ partition below. refl; legal = refl }

pub none_are_kept : (flows : Flows) → AreKept flows 2 digest (λ file. []) []
none_are_kept flows = record { below = tt; kept = λ partition below. refl; states = fresh; made = refl; given = tt }

-- partition 0 keeps a request of a client of partition 1
pub astray_kept : entries_in (logs_in (asked_at 2 digest 0) (one_file 16 (taken_of 0))) ≡ Some (taking 0 ∷ [])
unfolding is_utf8 chars encode request_number_at several_at run_at word_size_at name_at key_at text_at scalar_at scalars_at value_front value_at id_at reply_at answer_at spot_at spot_count_at lock_at start_at raise_at query_at wait_at result_at operate_at granted_at body_at message_at count_at outcome_at took_at item_at members_at entry_items_at position_at incarnation_at next_entry_at next_entries_at next_frame_at header_at framed_at entries_from
astray_kept = refl

pub none_beside : entries_in (logs_in (asked_at 2 digest 1) (one_file 16 (taken_of 0))) ≡ Some []
unfolding header_at entries_from
none_beside = refl

-- ---- what is stuck

-- where no next entry is accepted nothing happens
pub stays : (flows : Flows) (logs : ℕ → List Entry) → IsStuck flows 2 fresh logs → HasPlaced 2 (placed flows 2 logs) fresh logs
stays flows logs stuck = any_order_so_far flows 2 [] logs logs fresh tt refl (λ partition below. refl) stuck
