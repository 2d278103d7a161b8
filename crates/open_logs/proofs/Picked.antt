-- Where a life goes on that a call picks.
use Rattle.std.proofs.Common.{◌≡◌, ◌≢◌, ◌≤◌, ◌==◌, ◌⊎◌, inl, inr, ℕ, Bool, true, false, cond, List, [], Some, Result, Ok, Err, nat_le, map, refl, sym, ◌∙◌, ap, arith, eqb-true, slice_get}
use Rattle.std.specs.Prelude.{option_map}
use Rattle.std.proofs.lemmas.Bool.{eq-eqb, leb-true, le-leb, and_parts}
use Rattle.std.proofs.lemmas.List.{append-nil}
use Rattle.std.proofs.lemmas.Option.{get_or_from_slice_get, slice_get-map}
use Rattle.commit_log.specs.Segment.{first_gate, segment, reading_of}
use Rattle.commit_log.specs.declared.header.Header.{Header}
use Rattle.commit_log.specs.declared.states.Resting.{Resting}
use Rattle.commit_log.proofs.Written.{reads_closed}
use Rattle.dura_model.specs.Partition.{Partition}
use Rattle.dura_value.specs.Items.{Entry}
use Rattle.hub_store.specs.Frames.{goes_on}
use Rattle.hub_store.specs.Opened.{IsOrigin}
use Rattle.hub_store.specs.Origin.{Log}
use Rattle.many_logs.specs.Labels.{state_next}
use Rattle.many_rules.specs.Leaves.{header_at}
use Rattle.open_logs.specs.Picks.{payloads_of, log_of, log_with, goes_on_at, log_at, log_from, file_picked, log_in_file, log_picked, origin_picked, files_of}
use Rattle.open_logs.specs.Ready.{IsOpened}
use Rattle.part_items.specs.Kept.{first_of, decoded}
use Rattle.part_items.specs.Logs.{first_log, second_log}
use Rattle.part_items.specs.Numbered.{Next, behind_all}
use Rattle.site_model.specs.History.{Step, content_of}

-- ---- a picked log

-- its payloads are read as its entries, and it is of this partition
pub record KeepsOwn (partition : ℕ) (log : Log) : Type 0 where
  pub kept : decoded first_gate (first_of log.header) log.payloads ≡ Ok log.entries
  pub of_it : log.header.partition ≡ partition

log_keeps : (header : Header) (file : ℕ) (payloads : List (List ℕ)) (read : Result (List Entry) ℕ) → decoded first_gate (first_of header) payloads ≡ read → KeepsOwn header.partition (log_of header file payloads read)
log_keeps header file payloads (Ok entries) is = record { kept = is; of_it = refl }
log_keeps header file payloads (Err offset) is = record { kept = refl; of_it = refl }

at_keeps : (partition : ℕ) (log : Log) (position : ℕ) → log.header.partition ≡ partition → KeepsOwn partition (log_at log position)
at_keeps partition log position of_it = record { kept = refl; of_it = of_it }

-- it goes on where the state does: at its position, in no later incarnation
pub record GoesOnAt (log : Log) (state : Partition) : Type 0 where
  pub at : (goes_on log []).position ≡ state.position
  pub follows : (goes_on log []).incarnation ≤ state.incarnation

pub record IsPicked (partition file : ℕ) (log : Log) (state : Partition) : Type 0 where
  pub own : KeepsOwn partition log
  pub goes : GoesOnAt log state
  pub file_is : log.file ≡ file

from_picked : (partition : ℕ) (log : Log) (state : Partition) → KeepsOwn partition log → IsPicked partition log.file (log_from log state) state
from_picked partition log state own = by (goes_on_at log state) refl
  where
    by : (test : Bool) → goes_on_at log state ≡ test → IsPicked partition log.file (log_from log state) state
    by true is = rw is (record {
      own = own;
      goes = let parts = and_parts ((goes_on log []).position == state.position) (nat_le (goes_on log []).incarnation state.incarnation) is in record { at = eqb-true (goes_on log []).position state.position parts.0; follows = leb-true (goes_on log []).incarnation state.incarnation parts.1 };
      file_is = refl;
    })
    by false is = rw is (record { own = at_keeps partition log state.position own.of_it; goes = record { at = refl; follows = omega arith }; file_is = refl })

with_file : (header : Header) (file : ℕ) (payloads : List (List ℕ)) (read : Result (List Entry) ℕ) → (log_of header file payloads read).file ≡ file
with_file header file payloads (Ok entries) = refl
with_file header file payloads (Err offset) = refl

pub picked : (count digest partition file : ℕ) (steps : List Step) (state : Partition) → IsPicked partition (file_picked partition file) (log_picked count digest partition file steps state) state
picked count digest partition file steps state =
    let header = header_at count digest partition in
    let own_file = file_picked partition file in
    let payloads = payloads_of (reading_of (content_of own_file steps)) in
    let read = decoded first_gate (first_of header) payloads in
    let one = from_picked partition (log_with header own_file payloads) state (log_keeps header own_file payloads read refl) in
    record { own = one.own; goes = one.goes; file_is = one.file_is ∙ with_file header own_file payloads read }

-- ---- its file

-- it is one of the partition's two
own_file : (partition file : ℕ) → (file_picked partition file ≡ first_log partition) ⊎ (file_picked partition file ≡ second_log partition)
own_file partition file = by (file == second_log partition)
  where
    by : (test : Bool) → (cond test (second_log partition) (first_log partition) ≡ first_log partition) ⊎ (cond test (second_log partition) (first_log partition) ≡ second_log partition)
    by true = inr refl
    by false = inl refl

-- and so partitions that differ have files that do
files_apart : (partition other file more : ℕ) → partition ≢ other → file_picked partition file ≢ file_picked other more
files_apart partition other file more differ same = by (own_file partition file) (own_file other more)
  where
    by : (file_picked partition file ≡ first_log partition) ⊎ (file_picked partition file ≡ second_log partition) → (file_picked other more ≡ first_log other) ⊎ (file_picked other more ≡ second_log other) → ⊥
    by (inl one) (inl two) = differ (omega (arith, same, one, two))
    by (inl one) (inr two) = omega (arith, same, one, two)
    by (inr one) (inl two) = omega (arith, same, one, two)
    by (inr one) (inr two) = differ (omega (arith, same, one, two))

-- a file that is one of the two is picked
pub file_is : (partition file other : ℕ) → ((file ≡ first_log partition) × (other ≡ second_log partition)) ⊎ ((file ≡ second_log partition) × (other ≡ first_log partition)) → file_picked partition file ≡ file
file_is partition file other (inl first) = by (file == second_log partition) refl
  where
    by : (test : Bool) → (file == second_log partition) ≡ test → cond test (second_log partition) (first_log partition) ≡ file
    by true same = sym (eqb-true file (second_log partition) same)
    by false apart = sym first.0
file_is partition file other (inr second) = by (file == second_log partition) refl
  where
    by : (test : Bool) → (file == second_log partition) ≡ test → cond test (second_log partition) (first_log partition) ≡ file
    by true same = sym (eqb-true file (second_log partition) same)
    by false apart = let wrong : true ≡ false = sym (eq-eqb file (second_log partition) second.0) ∙ apart in absurd (cc wrong)

-- ---- the origin

-- whatever the disk tells, it is one
pub origin_is : (count digest : ℕ) (files : ℕ → ℕ) (steps : List Step) (states : ℕ → Partition) → IsOrigin (origin_picked count digest files steps states)
origin_is count digest files steps states = record {
  apart = λ part other low below differ same.
      files_apart part other (files part) (files other) differ
      (sym (picked count digest part (files part) steps (states part)).file_is ∙ same ∙ (picked count digest other (files other) steps (states other)).file_is);
  headers = λ partition below. (picked count digest partition (files partition) steps (states partition)).own.of_it;
  kept = λ partition below. (picked count digest partition (files partition) steps (states partition)).own.kept;
}

-- and each of its logs goes on where the state does
pub origin_goes : (count digest : ℕ) (files : ℕ → ℕ) (steps : List Step) (states : ℕ → Partition) (partition : ℕ) → GoesOnAt ((origin_picked count digest files steps states).logs partition) (states partition)
origin_goes count digest files steps states partition = (picked count digest partition (files partition) steps (states partition)).goes

-- ---- the log that rests

-- the file of a log among those of all
pub file_at : (logs : List Resting) (partition : ℕ) (log : Resting) → slice_get logs partition ≡ Some log → files_of logs partition ≡ log.file
file_at logs partition log at =
    get_or_from_slice_get (map (λ (l : Resting). l.file) logs) partition log.file (first_log partition) (slice_get-map (λ (l : Resting). l.file) logs partition ∙ ap (option_map (λ (l : Resting). l.file)) at)

-- Where the log rests in its file whose entries made the state, it is the one that is picked.
pub picked_is : (count digest partition : ℕ) (entries : List Entry) (steps : List Step) (log : Resting) (state : Partition) → (is : IsOpened count digest partition entries steps log) → state_next state ≡ behind_all (first_of (header_at count digest partition)) entries
    → log_picked count digest partition log.file steps state ≡ record { file = log.file; header = header_at count digest partition; payloads = is.payloads; entries = entries }
picked_is count digest partition entries steps log state is goes =
    let header = header_at count digest partition in
    let rests = is.rests in
    let reading : reading_of (content_of log.file steps) ≡ segment header is.payloads log.gate =
    ap reading_of rests.content ∙ reads_closed header is.payloads log.gate rests.byte rests.rest rests.ends rests.closed in
    let found : Log = record { file = log.file; header = header; payloads = is.payloads; entries = entries } in
    let with_is : log_with header log.file (payloads_of (reading_of (content_of log.file steps))) ≡ found =
    ap (λ r. log_with header log.file (payloads_of r)) reading ∙ ap (log_of header log.file is.payloads) is.read in
    let next : goes_on found [] ≡ state_next state = ap (behind_all (first_of header)) (append-nil entries) ∙ sym goes in
    let place : ((goes_on found []).position == state.position) ≡ true = eq-eqb (goes_on found []).position state.position (ap (λ (n : Next). n.position) next) in
    let follows : nat_le (goes_on found []).incarnation state.incarnation ≡ true = le-leb (goes_on found []).incarnation state.incarnation (let same = ap (λ (n : Next). n.incarnation) next in omega (arith, same)) in
    let there : log_from found state ≡ found = rw (place, follows) refl in
    ap (λ (f : ℕ). log_in_file count digest partition f steps state) (file_is partition log.file is.other is.files)
    ∙ ap (λ (l : Log). log_from l state) with_is
    ∙ there
