-- Which log two files have by their fronts.
use Rattle.std.proofs.Common.{◌≡◌, ◌∙◌, inl, inr, ℕ, true, ◌==◌, List, Option, Some, None, Result, Ok, Err, refl, sym, ap, subst}
use Rattle.std.specs.Prelude.{IfOk}
use Rattle.std.proofs.lemmas.Bool.{eq-eqb}
use Rattle.site_model.specs.History.{Step, content_of}
use Rattle.commit_log.specs.declared.header.Header.{Header}
use Rattle.commit_log.specs.declared.reader.OpenedLog.{OpenedLog}
use Rattle.commit_log.specs.Segment.{first_gate}
use Rattle.dura_value.specs.Items.{Entry}
use Rattle.part_items.specs.Kept.{Kept, nothing, keeps, kept_under, kept_from, left_from, first_of, kept_in}
use Rattle.part_items.specs.Logs.{Asked, log_in, logs_of, logs_in, first_log, second_log}
use Rattle.log_files.specs.Entries.{whole_of}
use Rattle.log_files.specs.Checked.{IsOpen}
use Rattle.log_files.specs.Fitting.{log_of, logs_with, FitsFile, Chooses, IsOwn, IsChosen}
use Rattle.log_files.specs.declared.opening.LogFile.{LogFile}
use Rattle.log_files.specs.declared.opening.LogFile.TheVariants.{Fresh, Damaged, Log}
use Rattle.log_files.proofs.HeadersRead.{own_partition}

log_is : (found : LogFile) (log : OpenedLog) → log_of found ≡ Some log → found ≡ Log log
log_is Fresh log is = absurd (cc is)
log_is (Damaged offset) log is = absurd (cc is)
log_is (Log other) log is = ap (λ (l : OpenedLog). Log l) (cc is)

-- a file without a log keeps nothing
nothing_kept : (asked : Asked) (steps : List Step) (partition file : ℕ) (found : LogFile) → IsOpen steps partition file found → FitsFile asked found → log_of found ≡ None → kept_in partition (content_of file steps) ≡ nothing
nothing_kept asked steps partition file Fresh opened fits none = ap (kept_from (content_of file steps)) opened
nothing_kept asked steps partition file (Damaged offset) opened fits none = absurd fits
nothing_kept asked steps partition file (Log log) opened fits none = absurd (cc none)

-- and one with a log what is read of this
log_kept : (steps : List Step) (partition file : ℕ) (log : OpenedLog) → IsOpen steps partition file (Log log) → kept_in partition (content_of file steps) ≡ kept_under log.header (whole_of steps log)
log_kept steps partition file log opened =
    ap (kept_from (content_of file steps)) opened.0
    ∙ ap (λ (f : ℕ). kept_under log.header (left_from (content_of f steps) first_gate (first_of log.header))) (sym opened.1)

-- a log of these partitions and flows from position 0 on, in the first file or in the second
module _ (asked : Asked) (h : Header) (entries : List Entry) (gate : ℕ) where
  first_has : (h.partitions == asked.count) ≡ true → (h.digest == asked.digest) ≡ true → (h.base == 0) ≡ true → logs_of asked (keeps h entries gate) nothing ≡ log_in (first_log asked.partition) entries gate
  first_has shape own base = rw (shape, own, base) refl

  second_has : (h.partitions == asked.count) ≡ true → (h.digest == asked.digest) ≡ true → (h.base == 0) ≡ true → logs_of asked nothing (keeps h entries gate) ≡ log_in (second_log asked.partition) entries gate
  second_has shape own base = rw (shape, own, base) refl

-- and what is read of it, to its end or not
module _ (asked : Asked) (log : OpenedLog) (fits : FitsFile asked (Log log)) (base : log.header.base ≡ 0) where
  shape_is : (log.header.partitions == asked.count) ≡ true
  shape_is = eq-eqb log.header.partitions asked.count fits.0

  flows_are : (log.header.digest == asked.digest) ≡ true
  flows_are = eq-eqb log.header.digest asked.digest fits.1

  base_is : (log.header.base == 0) ≡ true
  base_is = eq-eqb log.header.base 0 base

  first_reads : (read : Result (List Entry × ℕ) ℕ) → logs_of asked (kept_under log.header read) nothing ≡ logs_with (first_log asked.partition) read
  first_reads (Ok read) = first_has asked log.header read.0 read.1 shape_is flows_are base_is
  first_reads (Err offset) = refl

  second_reads : (read : Result (List Entry × ℕ) ℕ) → logs_of asked nothing (kept_under log.header read) ≡ logs_with (second_log asked.partition) read
  second_reads (Ok read) = second_has asked log.header read.0 read.1 shape_is flows_are base_is
  second_reads (Err offset) = refl

module _ (asked : Asked) (steps : List Step) where
  -- the logs by what is kept
  logs_are : (first second : Kept) → kept_in asked.partition (content_of (first_log asked.partition) steps) ≡ first → kept_in asked.partition (content_of (second_log asked.partition) steps) ≡ second
      → logs_in asked (λ file. content_of file steps) ≡ logs_of asked first second
  logs_are first second one two = ap (λ (k : Kept). logs_of asked k (kept_in asked.partition (content_of (second_log asked.partition) steps))) one ∙ ap (logs_of asked first) two

  -- a log that is opened in a file, and that alone is there
  own_log : (file : ℕ) (log : OpenedLog) → IsOpen steps asked.partition file (Log log) → FitsFile asked (Log log) → log.header.base ≡ 0
      → (kept_in asked.partition (content_of file steps) ≡ kept_under log.header (whole_of steps log) → logs_in asked (λ f. content_of f steps) ≡ logs_with file (whole_of steps log))
      → IsOwn asked steps log
  own_log file log opened fits base logs = record {
    opened = opened.2;
    partition = own_partition asked.partition (content_of file steps) log.header opened.0;
    partitions = fits.0;
    digest = fits.1;
    base = base;
    is = logs (log_kept steps asked.partition file log opened) ∙ ap (λ (f : ℕ). logs_with f (whole_of steps log)) (sym opened.1);
  }

  module _ (first second : LogFile) (one : IsOpen steps asked.partition (first_log asked.partition) first) (two : IsOpen steps asked.partition (second_log asked.partition) second) (suits : FitsFile asked first)
      (suits_too : FitsFile asked second) where
    first_chosen : (log : OpenedLog) → log.header.base ≡ 0 → log_of first ≡ Some log → log_of second ≡ None → IsOwn asked steps log
    first_chosen log base here none =
        let is = log_is first log here in
        let fits = subst (FitsFile asked) is suits in
        own_log (first_log asked.partition) log (subst (IsOpen steps asked.partition (first_log asked.partition)) is one) fits base (λ kept.
        logs_are (kept_under log.header (whole_of steps log)) nothing kept (nothing_kept asked steps asked.partition (second_log asked.partition) second two suits_too none)
        ∙ first_reads asked log fits base (whole_of steps log))

    second_chosen : (log : OpenedLog) → log.header.base ≡ 0 → log_of first ≡ None → log_of second ≡ Some log → IsOwn asked steps log
    second_chosen log base none there =
        let is = log_is second log there in
        let fits = subst (FitsFile asked) is suits_too in
        own_log (second_log asked.partition) log (subst (IsOpen steps asked.partition (second_log asked.partition)) is two) fits base (λ kept.
        logs_are nothing (kept_under log.header (whole_of steps log)) (nothing_kept asked steps asked.partition (first_log asked.partition) first one suits none) kept
        ∙ second_reads asked log fits base (whole_of steps log))

    chosen_of : (chosen : Option OpenedLog) → Chooses (log_of first) (log_of second) chosen → IsChosen asked steps chosen
    chosen_of None chooses =
        logs_are nothing nothing (nothing_kept asked steps asked.partition (first_log asked.partition) first one suits chooses.0)
        (nothing_kept asked steps asked.partition (second_log asked.partition) second two suits_too chooses.1)
    chosen_of (Some log) chooses = elim chooses.1 [
      | inl here ↦ first_chosen log chooses.0 here.0 here.1
      | inr there ↦ second_chosen log chooses.0 there.0 there.1
    ]

    pub if_chosen : {E : Type 0} (one_log other_log : Option OpenedLog) → one_log ≡ log_of first → other_log ≡ log_of second → (result : Result (Option OpenedLog) E) → IfOk result (Chooses one_log other_log) → IfOk result (IsChosen asked steps)
    if_chosen one_log other_log one_is other_is (Ok chosen) chooses =
        chosen_of chosen (subst (λ (l : Option OpenedLog). Chooses l (log_of second) chosen) one_is (subst (λ (l : Option OpenedLog). Chooses one_log l chosen) other_is chooses))
    if_chosen one_log other_log one_is other_is (Err error) chooses = tt
