-- What was recovered is ready to be opened.
use Rattle.std.proofs.Common.{◌≡◌, ◌<◌, ◌+◌, ◌==◌, ◌⊎◌, inl, inr, ℕ, Bool, true, false, cond, List, [], ◌∷◌, ◌++◌, length, Option, Some, None, Ok, refl, sym, ◌∙◌, ap, subst, arith, eqb-true}
use Rattle.std.specs.Prelude.{IfSome}
use Rattle.std.proofs.lemmas.Bool.{eq-eqb}
use Rattle.std.proofs.lemmas.Option.{slice_get_within}
use Rattle.commit_log.specs.declared.header.Header.{Header}
use Rattle.commit_log.specs.declared.states.Resting.{Resting}
use Rattle.commit_log.specs.Outcomes.{RestsAs}
use Rattle.commit_log.specs.Segment.{first_gate, ◌>>=◌}
use Rattle.dura_value.proofs.Basics.{both_ok}
use Rattle.dura_value.specs.Items.{Entry}
use Rattle.flow_syntax.specs.Syntax.{Flows}
use Rattle.log_files.proofs.FilesOpened.{content_synced}
use Rattle.log_files.specs.Entries.{frames_in}
use Rattle.log_files.specs.Fronts.{synced_to}
use Rattle.many_logs.specs.Stands.{asked_at}
use Rattle.many_rules.specs.Leaves.{header_at}
use Rattle.open_logs.specs.Ready.{IsOpened, IsUnmade, IsReady, AllReady}
use Rattle.open_logs.proofs.Syncs.{both_kept}
use Rattle.part_items.specs.Kept.{Kept, nothing, broken, keeps, kept_in, first_of, in_file, decoded}
use Rattle.part_items.specs.Logs.{Refusal, Logs, log_in, no_log, damaged_at, base_place, or_else, unless, fault_of, same_base, late_base, first_fault, the_log, first_log, second_log, logs_in, entries_in}
use Rattle.part_items.specs.Numbered.{Next, behind_all, next_frame_in}
use Rattle.part_items.proofs.LogsNumbered.{no_more}
use Rattle.recover_core.specs.Recovering.{AreOpened, AllRest, IsLogOf, RestsFor}
use Rattle.recover_core.specs.declared.recovery.Opened.{Opened}
use Rattle.site_model.specs.History.{Step, changes_of, content_of, Leaves}

-- ---- the log of two files

unrefused : (fault : Option Refusal) (found : Logs) (file : ℕ) (entries : List Entry) (gate : ℕ) → unless fault found ≡ log_in file entries gate → (fault ≡ None) × (found ≡ log_in file entries gate)
unrefused None found file entries gate is = (refl, is)
unrefused (Some refusal) found file entries gate is = absurd (cc is)

none_unrefused : (fault : Option Refusal) (found : Logs) → unless fault found ≡ no_log → (fault ≡ None) × (found ≡ no_log)
none_unrefused None found is = (refl, is)
none_unrefused (Some refusal) found is = absurd (cc is)

some_behind : {X : Type 0} (one : Option X) (x : X) → or_else one (Some x) ≡ None → ⊥
some_behind None x is = cc is
some_behind (Some y) x is = cc is

early : (file base : ℕ) → cond (base == 0) None (Some (damaged_at file base_place)) ≡ None → base ≡ 0
early file base is = by (base == 0) refl is
  where
    by : (test : Bool) → (base == 0) ≡ test → cond test None (Some (damaged_at file base_place)) ≡ None → base ≡ 0
    by true same none = eqb-true base 0 same
    by false other none = absurd (cc none)

apart : (file one two : ℕ) → cond (one == two) (Some (damaged_at file base_place)) None ≡ None → one ≡ two → ⊥
apart file one two is same = let wrong : Some (damaged_at file base_place) ≡ None = ap (λ (test : Bool). cond test (Some (damaged_at file base_place)) None) (sym (eq-eqb one two same)) ∙ is in cc wrong

module _ (count digest partition : ℕ) where
  module _ (file : ℕ) (entries : List Entry) (gate : ℕ) where
    same_file : (f : ℕ) (some : List Entry) (at : ℕ) → log_in f some at ≡ log_in file entries gate → file ≡ f
    same_file f some at is = cc is

    by_kept : (one two : Kept) → first_fault (asked_at count digest partition) one two ≡ None → the_log partition one two ≡ log_in file entries gate
        → ((file ≡ first_log partition) × (two ≡ nothing)) ⊎ ((file ≡ second_log partition) × (one ≡ nothing))
    by_kept (keeps h some at) (keeps g more place) none is =
        let a = no_more (fault_of (asked_at count digest partition) (first_log partition) (keeps h some at)) _ none in
        let b = no_more (fault_of (asked_at count digest partition) (second_log partition) (keeps g more place)) _ a.1 in
        let c = no_more (same_base (second_log partition) (keeps h some at) (keeps g more place)) _ b.1 in
        let d = no_more (late_base (first_log partition) (keeps h some at)) _ c.1 in
        absurd (apart (second_log partition) h.base g.base c.0 (early (first_log partition) h.base d.0 ∙ sym (early (second_log partition) g.base d.1)))
    by_kept (keeps h some at) nothing none is = inl (same_file (first_log partition) some at is, refl)
    by_kept (keeps h some at) (broken offset) none is = absurd (some_behind (fault_of (asked_at count digest partition) (first_log partition) (keeps h some at)) (damaged_at (second_log partition) offset) none)
    by_kept nothing (keeps g more place) none is = inr (same_file (second_log partition) more place is, refl)
    by_kept nothing nothing none is = absurd (cc is)
    by_kept nothing (broken offset) none is = absurd (cc none)
    by_kept (broken offset) two none is = absurd (cc none)

  -- the file beside a log keeps nothing
  other_nothing : (files : ℕ → List ℕ) (file : ℕ) (entries : List Entry) (gate : ℕ) → logs_in (asked_at count digest partition) files ≡ log_in file entries gate
      → ((file ≡ first_log partition) × (kept_in partition (files (second_log partition)) ≡ nothing)) ⊎ ((file ≡ second_log partition) × (kept_in partition (files (first_log partition)) ≡ nothing))
  other_nothing files file entries gate is =
      let one = kept_in partition (files (first_log partition)) in
      let two = kept_in partition (files (second_log partition)) in
      let parts = unrefused (first_fault (asked_at count digest partition) one two) (the_log partition one two) file entries gate is in
      by_kept file entries gate one two parts.0 parts.1

  none_kept : (one two : Kept) → first_fault (asked_at count digest partition) one two ≡ None → the_log partition one two ≡ no_log → (one ≡ nothing) × (two ≡ nothing)
  none_kept (keeps h some at) two none is = absurd (cc is)
  none_kept nothing (keeps g more place) none is = absurd (cc is)
  none_kept nothing nothing none is = (refl, refl)
  none_kept nothing (broken offset) none is = absurd (cc none)
  none_kept (broken offset) two none is = absurd (cc none)

  -- without a log neither file keeps anything
  both_nothing : (files : ℕ → List ℕ) → logs_in (asked_at count digest partition) files ≡ no_log → (kept_in partition (files (first_log partition)) ≡ nothing) × (kept_in partition (files (second_log partition)) ≡ nothing)
  both_nothing files is =
      let one = kept_in partition (files (first_log partition)) in
      let two = kept_in partition (files (second_log partition)) in
      let parts = none_unrefused (first_fault (asked_at count digest partition) one two) (the_log partition one two) is in
      none_kept one two parts.0 parts.1

-- ---- payloads

-- payloads that are read frame by frame are read, wherever they lie
frames_decoded : (payloads : List (List ℕ)) (gate : ℕ) (next : Next) (entries : List Entry) → frames_in next payloads ≡ Ok entries → decoded gate next payloads ≡ Ok entries
frames_decoded [] gate next entries is = is
frames_decoded (payload ∷ payloads) gate next entries is =
    let one = both_ok (next_frame_in next payload) (λ frame. frames_in (behind_all next frame) payloads >>= λ more. Ok (frame ++ more)) entries is in
    let two = both_ok (frames_in (behind_all next one.0) payloads) (λ more. Ok (one.0 ++ more)) entries one.2 in
    let rest = frames_decoded payloads (gate + 5 + length payload) (behind_all next one.0) two.0 two.1 in
    ap (λ r. in_file (gate + 5) r >>= λ frame. decoded (gate + 5 + length payload) (behind_all next frame) payloads >>= λ more. Ok (frame ++ more)) one.1
    ∙ ap (λ r. r >>= λ more. Ok (one.0 ++ more)) rest
    ∙ two.2

header_is : (count digest partition : ℕ) (h : Header) → h.partition ≡ partition → h.partitions ≡ count → h.digest ≡ digest → h.base ≡ 0 → h ≡ header_at count digest partition
header_is count digest partition h own partitions of_flows base = λ i. record { partition = own i; partitions = partitions i; digest = of_flows i; base = base i }

-- ---- one partition

module _ (count digest partition : ℕ) (old : List Step) (below : partition < count) where
  abbrev files : ℕ → List ℕ
  files file = content_of file old

  abbrev base : List Step
  base = synced_to count old

  abbrev logs : Logs
  logs = logs_in (asked_at count digest partition) files

  first_image : (image : List ℕ) → Leaves (changes_of (first_log partition) base) image → image ≡ content_of (first_log partition) old
  first_image image leaves = (both_kept count partition old below).0 image leaves ∙ content_synced count (first_log partition) old

  second_image : (image : List ℕ) → Leaves (changes_of (second_log partition) base) image → image ≡ content_of (second_log partition) old
  second_image image leaves = (both_kept count partition old below).1 image leaves ∙ content_synced count (second_log partition) old

  log_there : (entries : List Entry) (log : Resting) → entries_in logs ≡ Some entries → logs ≡ log_in log.file entries log.gate → RestsFor base (asked_at count digest partition) logs log → IsOpened count digest partition entries base log
  log_there entries log kept is rests =
      let header = header_is count digest partition rests.header rests.partition rests.partitions rests.of_flows rests.base in
      let same : rests.entries ≡ entries = cc (rests.kept, kept) in
      let read : frames_in (first_of (header_at count digest partition)) rests.payloads ≡ Ok entries = subst (λ (h : Header). frames_in (first_of h) rests.payloads ≡ Ok entries) header (rests.decoded ∙ ap (λ (l : List Entry). Ok l) same) in
      let other = other_nothing count digest partition files log.file entries log.gate is in
      let stands = subst (λ (h : Header). RestsAs base h rests.payloads log) header rests.rests in
      let all = frames_decoded rests.payloads first_gate (first_of (header_at count digest partition)) entries read in
      elim other [
        | inl first ↦ record { payloads = rests.payloads; read = all; rests = stands; other = second_log partition; files = inl (first.0, refl); empty = λ image leaves. ap (kept_in partition) (second_image image leaves) ∙ first.1 }
        | inr second ↦ record { payloads = rests.payloads; read = all; rests = stands; other = first_log partition; files = inr (second.0, refl); empty = λ image leaves. ap (kept_in partition) (first_image image leaves) ∙ second.1 }
      ]

  none_there : (entries : List Entry) → entries_in logs ≡ Some entries → logs ≡ no_log → IsUnmade partition entries base
  none_there entries kept is =
      let both = both_nothing count digest partition files is in
      let none : entries ≡ [] = cc (ap entries_in is, kept) in
      let kept_now = both_kept count partition old below in
      record {
        none = none;
        first = ap (kept_in partition) (content_synced count (first_log partition) old) ∙ both.0;
        second = ap (kept_in partition) (content_synced count (second_log partition) old) ∙ both.1;
        first_kept = kept_now.0;
        second_kept = kept_now.1;
      }

  is_ready : (entries : List Entry) (found : Option Resting) → entries_in logs ≡ Some entries → IsLogOf entries found logs → IfSome found (RestsFor base (asked_at count digest partition) logs) → IsReady count digest partition entries base found
  is_ready entries (Some log) kept is rests = log_there entries log kept is rests
  is_ready entries None kept is rests = none_there entries kept is

-- ---- all

pub all_ready : (flows : Flows) (count digest : ℕ) (old : List Step) (opened : Opened) → (are : AreOpened flows count digest (λ file. content_of file old) opened) → length opened.lives.items ≡ count
    → AllRest (synced_to count old) count digest (λ file. content_of file old) opened.lives.items → AllReady count digest are.logs (synced_to count old) opened.lives.items
all_ready flows count digest old opened are many rests partition life at =
    let low = slice_get_within opened.lives.items partition life at in
    let below : partition < count = omega (arith, low, many) in
    is_ready count digest partition old below (are.logs partition) life.log (are.kept partition below) (are.lives partition life at).log (rests partition life at)
