-- Which logs can be read to their ends, and what partitions have in their files then.
use Rattle.std.proofs.Common.{◌≡◌, ◌∙◌, inl, inr, ℕ, ◌<◌, ◌≤◌, true, List, [], ◌∷◌, ◌++◌, length, get_or, Option, Some, None, Result, Ok, Err, refl, sym, ap, subst, append_assoc, append-nil, arith}
use Rattle.std.specs.List.{slice_get}
use Rattle.std.specs.Option.{option_and_then}
use Rattle.std.proofs.lemmas.Bool.{cases_lt}
use Rattle.std.proofs.lemmas.Option.{slice_get_within, slice_get_past, slice_get-get_or}
use Rattle.site_model.specs.History.{Step, content_of}
use Rattle.commit_log.specs.declared.reader.OpenedLog.{OpenedLog}
use Rattle.commit_log.specs.declared.states.Resting.{Resting}
use Rattle.dura_value.specs.Items.{Entry}
use Rattle.log_files.specs.Checked.{HasEntries, asked_for}
use Rattle.log_files.specs.Entries.{whole_of, left_in, with_front, Reads}
use Rattle.log_files.specs.Fitting.{IsOwn, IsChosen, Chooses, logs_with}
use Rattle.log_files.specs.declared.reader.EntryReader.{EntryReader}
use Rattle.log_items.specs.Plain.{entry_of}
use Rattle.log_items.specs.declared.frames.Entry as read
use Rattle.part_items.specs.Logs.{Asked, Logs, log_in, logs_in, entries_in}
use Rattle.recover_core.specs.Begun.{AllBegun}
use Rattle.recover_core.specs.Courses.{IsOpenedOr, IsFromFirst, IsLog, IsWhole}
use Rattle.recover_core.specs.Ended.{has_ended, EndsBelow}
use Rattle.recover_core.specs.Recovering.{IsLogOf}
use Rattle.recover_core.specs.Rounds.{AllRead, AllWhole}
use Rattle.recover_core.specs.Told.{AllKeep}
use Rattle.recover_core.specs.declared.course.Comes.{Comes}
use Rattle.recover_core.specs.declared.course.Comes.TheVariants.{More, Waits, Refused, End}
use Rattle.recover_core.specs.declared.course.Course.{Course}

-- a list has nothing just past its end
pub not_past : {X : Type 0} (xs : List X) (i : ℕ) → i < length xs → slice_get xs i ≡ None → ⊥
not_past {X} [] i below none = omega (arith, below)
not_past {X} (x ∷ xs) i below none = let wrong : Some (get_or (x ∷ xs) i x) ≡ None = sym (slice_get-get_or (x ∷ xs) i x below) ∙ none in cc wrong

pub past_end : {X : Type 0} (xs : List X) (i : ℕ) → slice_get xs i ≡ None → length xs ≤ i
past_end {X} xs i none = elim (cases_lt i (length xs)) [ inl inside ↦ absurd (not_past xs i inside none) | inr past ↦ past ]

-- the log of each place, if it has one
abbrev pub logs_of : List Course → ℕ → Option OpenedLog
logs_of courses place = option_and_then (λ (c : Course). c.log) (slice_get courses place)

-- ---- one log

-- a log that is found was opened, and begins with its partition's first entry
pub chosen_opened : (asked : Asked) (steps : List Step) (log : Option OpenedLog) → IsChosen asked steps log → IsOpenedOr steps log
chosen_opened asked steps None chosen = tt
chosen_opened asked steps (Some log) own = own.opened

pub chosen_first : (first second log : Option OpenedLog) → Chooses first second log → IsFromFirst log
chosen_first first second None chooses = tt
chosen_first first second (Some log) chooses = chooses.0

module _ (asked : Asked) (steps : List Step) where
  abbrev pub logs_here : Logs
  logs_here = logs_in asked (λ file. content_of file steps)

  -- a log whose files aren't refused can be read to its end
  pub whole_at : (log : Option OpenedLog) → IsChosen asked steps log → HasEntries logs_here → IsWhole steps log
  whole_at None chosen keeps = tt
  whole_at (Some log) own keeps = by (whole_of steps log) refl
    where
      by : (found : Result (List Entry × ℕ) ℕ) → whole_of steps log ≡ found → (whole : List Entry × ℕ) × (whole_of steps log ≡ Ok whole)
      by (Ok whole) is = (whole, is)
      by (Err offset) is = let wrong : Some keeps.0 ≡ None = sym keeps.1 ∙ ap entries_in (own.is ∙ ap (logs_with log.file) is) in absurd (cc wrong)

  -- what a log that ended says of its partition's files
  pub ended_log : (done : List Entry) (log : Option OpenedLog) (end : Option Resting) → IsChosen asked steps log → IsLog steps done log (End end) → IsLogOf done end logs_here
  ended_log done None None chosen is = chosen
  ended_log done None (Some end) chosen is = absurd is
  ended_log done (Some log) None own is = absurd is
  ended_log done (Some log) (Some end) own is = own.is ∙ ap (logs_with log.file) is.whole ∙ ap (λ (f : ℕ). log_in f done end.gate) (sym is.file)

  pub ended_entries : (done : List Entry) (log : Option OpenedLog) (end : Option Resting) → IsChosen asked steps log → IsLog steps done log (End end) → entries_in logs_here ≡ Some done
  ended_entries done None None chosen is = ap entries_in chosen ∙ ap (λ (l : List Entry). Some l) (sym is)
  ended_entries done None (Some end) chosen is = absurd is
  ended_entries done (Some log) None own is = absurd is
  ended_entries done (Some log) (Some end) own is = ap entries_in (own.is ∙ ap (logs_with log.file) is.whole)

-- and it can be read to its end
pub ended_whole : (steps : List Step) (done : List Entry) (log : Option OpenedLog) (comes : Comes) → has_ended comes ≡ true → IsLog steps done log comes → IsWhole steps log
ended_whole steps done None comes ended is = tt
ended_whole steps done (Some log) (End (Some end)) ended is = ((done, end.gate), is.whole)
ended_whole steps done (Some log) (End None) ended is = absurd is
ended_whole steps done (Some log) (More reader) ended is = absurd (cc ended)
ended_whole steps done (Some log) (Waits entry reader) ended is = absurd (cc ended)
ended_whole steps done (Some log) (Refused entry reader) ended is = absurd (cc ended)

-- ---- what is left of a log

-- what comes next is the first of what is left
abbrev pub Begins : Comes → List Entry → Type 0
Begins (More reader) rest = Unit {0}
Begins (Waits entry reader) rest = (more : List Entry) × (rest ≡ entry_of entry ∷ more)
Begins (Refused entry reader) rest = (more : List Entry) × (rest ≡ entry_of entry ∷ more)
Begins (End end) rest = rest ≡ []

front_ok : (done : List Entry) (rest : Result (List Entry × ℕ) ℕ) (whole : List Entry × ℕ) → with_front done rest ≡ Ok whole → (more : List Entry) × (whole.0 ≡ done ++ more)
front_ok done (Ok more) whole is = (more.0, let same : (done ++ more.0, more.1) ≡ whole = cc is in ap (λ (w : List Entry × ℕ). w.0) (sym same))
front_ok done (Err offset) whole is = absurd (cc is)

-- a log that is read so far, and whose files have entries, has these and what is left
pub record IsPart (logs : Logs) (done : List Entry) (comes : Comes) : Type 0 where
  pub rest : List Entry
  pub kept : entries_in logs ≡ Some (done ++ rest)
  pub begins : Begins comes rest

module _ (asked : Asked) (steps : List Step) (log : OpenedLog) (own : IsOwn asked steps log) (whole : List Entry × ℕ) (is_whole : whole_of steps log ≡ Ok whole) where
  kept_whole : entries_in (logs_here asked steps) ≡ Some whole.0
  kept_whole = ap entries_in (own.is ∙ ap (logs_with log.file) is_whole)

  rest_behind : (done : List Entry) (reader : EntryReader) → Reads steps log done reader → (more : List Entry) × (whole.0 ≡ done ++ more)
  rest_behind done reader reads = front_ok done (left_in (content_of log.file steps) reader) whole (reads.left ∙ is_whole)

  next_behind : (done : List Entry) (entry : read.Entry) (reader : EntryReader) → Reads steps log (done ++ entry_of entry ∷ []) reader → (more : List Entry) × (whole.0 ≡ done ++ entry_of entry ∷ more)
  next_behind done entry reader reads =
      let both = rest_behind (done ++ entry_of entry ∷ []) reader reads in
      (both.0, both.1 ∙ append_assoc done (entry_of entry ∷ []) both.0)

  pub part_of_log : (done : List Entry) (comes : Comes) → IsLog steps done (Some log) comes → IsPart (logs_here asked steps) done comes
  part_of_log done (More reader) is =
      let both = rest_behind done reader is.1 in
      record { rest = both.0; kept = kept_whole ∙ ap (λ (l : List Entry). Some l) both.1; begins = tt }
  part_of_log done (Waits entry reader) is =
      let both = next_behind done entry reader is.1 in
      record { rest = entry_of entry ∷ both.0; kept = kept_whole ∙ ap (λ (l : List Entry). Some l) both.1; begins = (both.0, refl) }
  part_of_log done (Refused entry reader) is =
      let both = next_behind done entry reader is.1 in
      record { rest = entry_of entry ∷ both.0; kept = kept_whole ∙ ap (λ (l : List Entry). Some l) both.1; begins = (both.0, refl) }
  part_of_log done (End (Some end)) is = record { rest = []; kept = ended_entries asked steps done (Some log) (Some end) own is ∙ ap (λ (l : List Entry). Some l) (sym (append-nil done)); begins = refl }
  part_of_log done (End None) is = absurd is

pub part_of_course : (asked : Asked) (steps : List Step) (done : List Entry) (log : Option OpenedLog) (comes : Comes) → IsChosen asked steps log → IsWhole steps log → IsLog steps done log comes → IsPart (logs_here asked steps) done comes
part_of_course asked steps done (Some log) comes own whole is = part_of_log asked steps log own whole.0 whole.1 done comes is
part_of_course asked steps done None (End None) chosen whole is =
    record { rest = []; kept = ended_entries asked steps done None None chosen is ∙ ap (λ (l : List Entry). Some l) (sym (append-nil done)); begins = refl }
part_of_course asked steps done None (End (Some end)) chosen whole is = absurd is
part_of_course asked steps done None (More reader) chosen whole is = absurd is
part_of_course asked steps done None (Waits entry reader) chosen whole is = absurd is
part_of_course asked steps done None (Refused entry reader) chosen whole is = absurd is

-- ---- all logs

module _ (count digest : ℕ) (steps : List Step) (first : List Course) (begun : AllBegun count digest steps first) where
  pub begun_read : AllRead steps (logs_of first) first
  begun_read place course is = (ap (option_and_then (λ (c : Course). c.log)) (sym is), ([], (begun place course is).course_is))

  -- the log of each course is its partition's
  pub chosen_at : (place : ℕ) (log : Option OpenedLog) → place < length first → log ≡ logs_of first place → IsChosen (asked_for count digest place) steps log
  chosen_at place log below same = by (slice_get first place) refl
    where
      by : (found : Option Course) → slice_get first place ≡ found → IsChosen (asked_for count digest place) steps log
      by (Some course) is = subst (IsChosen (asked_for count digest place) steps) (sym (same ∙ ap (option_and_then (λ (c : Course). c.log)) is)) (begun place course is).chosen
      by None is = absurd (not_past first place below is)

  -- all can be read to their ends whose files aren't refused
  pub kept_whole_all : length first ≡ count → AllKeep count digest (λ file. content_of file steps) → AllWhole steps (logs_of first)
  kept_whole_all many keeps place = by (slice_get first place) refl
    where
      by : (found : Option Course) → slice_get first place ≡ found → IsWhole steps (logs_of first place)
      by None is = subst (IsWhole steps) (sym (ap (option_and_then (λ (c : Course). c.log)) is)) tt
      by (Some course) is =
          let inside = slice_get_within first place course is in
          subst (IsWhole steps) (sym (ap (option_and_then (λ (c : Course). c.log)) is)) (whole_at (asked_for count digest place) steps course.log (begun place course is).chosen (keeps place (omega (arith, inside, many))))

  -- and so can those that ended
  pub ended_whole_all : (courses : List Course) → length courses ≡ length first → AllRead steps (logs_of first) courses → EndsBelow (length courses) courses → AllWhole steps (logs_of first)
  ended_whole_all courses many all ended place = by (slice_get courses place) refl
    where
      by : (found : Option Course) → slice_get courses place ≡ found → IsWhole steps (logs_of first place)
      by (Some course) is =
          let read = all place course is in
          subst (IsWhole steps) read.0 (ended_whole steps read.1.0 course.log course.comes (ended place course (slice_get_within courses place course is) is) read.1.1.log)
      by None is =
          let past = past_end courses place is in
          let none : slice_get first place ≡ None = slice_get_past first place (omega (arith, past, many)) in
          subst (IsWhole steps) (sym (ap (option_and_then (λ (c : Course). c.log)) none)) tt
