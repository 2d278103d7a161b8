-- What a ledger shows that is made of a partition's state, place by place.
use Rattle.std.proofs.Common.{◌≡◌, inl, inr, ℕ, ◌+◌, ◌<◌, ◌≤◌, List, [], ◌∷◌, ◌++◌, length, map, get_or, sym, ap, ◌∙◌, arith}
use Rattle.std.specs.List.{range_with_len}
use Rattle.std.proofs.lemmas.Bool.{cases_lt}
use Rattle.std.proofs.lemmas.List.{length-map, get_or_past, map_push}
use Rattle.std.proofs.lemmas.List.FromFn.{length-map-range_with_len, get_or-map-range_with_len, map-range_with_len_more}
use Rattle.commit_gate.specs.Views.{box_of, whole_box, no_box, boxes_by, nexts_by, nobody, floors_in, ledger_of, whole_of}
use Rattle.commit_gate.specs.declared.ledger.Ledger as declared
use Rattle.commit_gate.specs.declared.ledger.Stream.{Stream}
use Rattle.dura_model.specs.Partition.{Partition}
use Rattle.dura_model.specs.Placed.{Belongs}
use Rattle.dura_value.specs.Items.{Identity}
use Rattle.dura_value.specs.Views.{identity_of}
use Rattle.dura_value.specs.declared.identity.Identity as identities
use Rattle.log_items.specs.Streams.{Outbox}
use Rattle.state_ledgers.specs.Ledger.{made_by, IsLedgerOf}

-- ---- lists of a function's first values

abbrev pub firsts : {X : Type 0} → (ℕ → X) → ℕ → List X
firsts f count = map f (range_with_len 0 count)

count_firsts : {X : Type 0} (f : ℕ → X) (count : ℕ) → length (firsts f count) ≡ count
count_firsts f count = length-map-range_with_len f 0 count

at_place : {X : Type 0} (f : ℕ → X) (count : ℕ) (d : X) (k : ℕ) → k < count → get_or (firsts f count) k d ≡ f k
at_place f count d k low = let same : 0 + k ≡ k = omega arith in get_or-map-range_with_len f 0 count k k d low same

-- one more of them
pub one_more : {X : Type 0} (f : ℕ → X) (n : ℕ) (now before : List X) (x : X) → now ≡ before ++ x ∷ [] → before ≡ firsts f n → x ≡ f n → now ≡ firsts f (n + 1)
one_more {X} f n now before x pushed are is =
    pushed ∙ ap (λ (l : List X). l ++ x ∷ []) are ∙ ap (λ (y : X). firsts f n ++ y ∷ []) is ∙ sym (let same : 0 + n ≡ n = omega arith in map-range_with_len_more f 0 n n same)

-- where the function has this behind them, they are all of it
by_place : {X : Type 0} (f : ℕ → X) (count : ℕ) (d : X) → ((k : ℕ) → count ≤ k → f k ≡ d) → (λ (k : ℕ). get_or (firsts f count) k d) ≡ f
by_place {X} f count d past = λ i k. each k i
  where
    each : (k : ℕ) → get_or (firsts f count) k d ≡ f k
    each k = elim (cases_lt k count) [
      | inl low ↦ at_place f count d k low
      | inr high ↦ let behind : length (firsts f count) ≤ k = omega (arith, high, count_firsts f count) in get_or_past (firsts f count) k d behind ∙ sym (past k high)
    ]

pub boxes_push : (boxes : List Stream) (one : Stream) → map whole_box boxes ≡ map box_of boxes → whole_box one ≡ box_of one → map whole_box (boxes ++ one ∷ []) ≡ map box_of (boxes ++ one ∷ [])
boxes_push boxes one before same =
    map_push whole_box boxes one ∙ ap (λ (l : List Outbox). l ++ whole_box one ∷ []) before ∙ ap (λ (b : Outbox). map box_of boxes ++ b ∷ []) same ∙ sym (map_push box_of boxes one)

-- ---- what a state has from past the count

none_taken : (count place : ℕ) (p : Partition) → Belongs count place p → (source : ℕ) → count ≤ source → (p.inboxes source).next ≡ 0
none_taken count place p belongs source high = elim (belongs.inboxes.others source) [
  | inl other ↦ absurd (omega (arith, other.below, high))
  | inr none ↦ none
]

none_left : (count place : ℕ) (p : Partition) → Belongs count place p → (target : ℕ) → count ≤ target → p.outboxes target ≡ no_box
none_left count place p belongs target high = elim (belongs.outboxes.others target) [
  | inl other ↦ absurd (omega (arith, other.below, high))
  | inr none ↦ none
]

-- ---- the ledger

pub shows : (count place : ℕ) (p : Partition) (past nexts : List ℕ) (readers : List identities.Identity) (boxes : List Stream) (ledger : declared.Ledger) → Belongs count place p
    → nexts ≡ firsts (λ source. (p.inboxes source).next) count → map identity_of readers ≡ firsts (λ source. (p.inboxes source).reader) count → map box_of boxes ≡ firsts p.outboxes count
    → ledger_of ledger ≡ record { incarnations = past; nexts = nexts_by nexts; boxes = boxes_by box_of boxes } → whole_of ledger ≡ ledger_of ledger → floors_in ledger ≡ []
    → length ledger.boxes.items ≡ length boxes → length ledger.nexts.items ≡ length nexts → ledger.readers.items ≡ readers → IsLedgerOf count p past ledger
shows count place p past nexts readers boxes ledger belongs nexts_are readers_are boxes_are settled whole floors many_boxes many_nexts same_readers = record {
  sized = record {
    boxes = many_boxes ∙ sym (length-map boxes box_of) ∙ ap length boxes_are ∙ count_firsts p.outboxes count;
    nexts = many_nexts ∙ ap length nexts_are ∙ count_firsts (λ source. (p.inboxes source).next) count;
    readers = ap length same_readers ∙ sym (length-map readers identity_of) ∙ ap length readers_are ∙ count_firsts (λ source. (p.inboxes source).reader) count;
  };
  settled = settled ∙ made;
  whole = whole;
  read = λ source low. ap (λ (l : List identities.Identity). get_or (map identity_of l) source nobody) same_readers ∙ ap (λ (l : List Identity). get_or l source nobody) readers_are ∙ at_place (λ source. (p.inboxes source).reader) count nobody source low;
  nothing_lost = floors;
}
  where
    nexts_by_place : nexts_by nexts ≡ (λ (source : ℕ). (p.inboxes source).next)
    nexts_by_place = ap (λ (l : List ℕ). λ (s : ℕ). get_or l s 0) nexts_are ∙ by_place (λ source. (p.inboxes source).next) count 0 (none_taken count place p belongs)

    boxes_by_place : boxes_by box_of boxes ≡ p.outboxes
    boxes_by_place = ap (λ (l : List Outbox). λ (t : ℕ). get_or l t no_box) boxes_are ∙ by_place p.outboxes count no_box (none_left count place p belongs)

    made : record { incarnations = past; nexts = nexts_by nexts; boxes = boxes_by box_of boxes } ≡ made_by past p
    made = λ i. record { incarnations = past; nexts = nexts_by_place i; boxes = boxes_by_place i }
