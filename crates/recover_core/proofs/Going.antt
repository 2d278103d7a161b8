-- A partition goes on by entries.
use Rattle.std.proofs.Common.{◌≡◌, ◌∙◌, ℕ, ◌+◌, Bool, true, false, if◌then◌else◌, List, [], ◌∷◌, ◌++◌, length, Option, Some, None, Result, Ok, Err, refl, sym, ap, subst, length-append, append_assoc, append-nil, arith}
use Rattle.std.specs.Option.{option_and_then}
use Rattle.std.proofs.lemmas.List.{map-append, length-map}
use Rattle.site_model.specs.History.{Step, content_of, changes_of, IsKept}
use Rattle.commit_log.specs.declared.reader.FrameError.{FrameError}
use Rattle.commit_log.specs.declared.reader.FrameError.TheVariants as unread
use Rattle.commit_log.specs.declared.reader.OpenedLog.{OpenedLog}
use Rattle.dura_value.specs.Items.{Entry}
use Rattle.dura_value.specs.Reading.{◌>>=◌}
use Rattle.log_items.specs.Entries.{incarnations_in}
use Rattle.log_items.specs.Plain.{entry_of}
use Rattle.log_items.specs.declared.frames.Entry as read
use Rattle.flow_syntax.specs.Syntax.{Flows}
use Rattle.dura_model.specs.Partition.{Partition, fresh, with_part}
use Rattle.dura_model.specs.Entries as alone
use Rattle.dura_model.specs.Entries.{entry_accepted, or_place, incarnation_behind, next_incarnation}
use Rattle.dura_model.proofs.Appending.{placed_both}
use Rattle.many_logs.specs.Placing.{Commit, are_ready, commit_accepted, states_after, commits_at}
use Rattle.many_logs.proofs.Apart.{part_here, accepted_parts}
use Rattle.many_logs.proofs.Frames.{put_then}
use Rattle.part_items.specs.Numbered.{Next, behind}
use Rattle.log_files.specs.Entries.{Reads, Gives, IsEntry, next_in, with_front, left_in}
use Rattle.log_files.specs.declared.reader.Ahead.{Ahead}
use Rattle.log_files.specs.declared.reader.Ahead.TheVariants as ahead
use Rattle.log_files.specs.declared.reader.EntryReader.{EntryReader}
use Rattle.recover_core.specs.Courses.{IsLog, IsWhole, IsCourse, ReadsFurther, IsBrokenLog, FitsCourse, IsStill, Halts, IsChain, HasTaken, HasHalted, GoesFar}
use Rattle.recover_core.specs.Restored.{IsFront}
use Rattle.recover_core.specs.declared.course.Comes.{Comes}
use Rattle.recover_core.specs.declared.course.Comes.TheVariants.{More, Waits, Refused, End}
use Rattle.recover_core.specs.declared.course.Course.{Course}

abbrev pub course_of : Option OpenedLog → Comes → List ℕ → ℕ → Course
course_of log comes past incarnation = record { log = log; comes = comes; past = past; incarnation = incarnation }

-- ---- the next entry is read

abbrev pub ReadsLog : List Step → (done : List Entry) → Option OpenedLog → Result Ahead FrameError → Type 0
ReadsLog steps done log (Ok (ahead.Entry entry behind)) = IsLog steps done log (Waits entry behind)
ReadsLog steps done log (Ok (ahead.End end)) = IsLog steps done log (End (Some end))
ReadsLog steps done log (Err error) = IsBrokenLog steps log error

pub log_read : (steps : List Step) (done : List Entry) (log : Option OpenedLog) (reader : EntryReader) (result : Result Ahead FrameError) → IsLog steps done log (More reader)
    → ((l : OpenedLog) (d : List Entry) → IsKept (changes_of l.file steps) → Reads steps l d reader → Gives steps l d result) → ReadsLog steps done log result
log_read steps done None reader result is gives = absurd is
log_read steps done (Some log) reader result is gives = by result (gives log done is.0.kept is.1)
  where
    by : (found : Result Ahead FrameError) → Gives steps log done found → ReadsLog steps done (Some log) found
    by (Ok (ahead.Entry entry behind)) given = (is.0, given)
    by (Ok (ahead.End end)) given = given
    by (Err (unread.Damaged offset)) given = given
    by (Err unread.SiteFault) given = tt
    by (Err unread.Memory) given = tt

pub fits_read : (p : Partition) (log : Option OpenedLog) (past : List ℕ) (incarnation : ℕ) (reader behind_it : EntryReader) (entry : read.Entry) → FitsCourse p (course_of log (More reader) past incarnation) → IsEntry reader (entry_of entry) behind_it
    → FitsCourse p (course_of log (Waits entry behind_it) past incarnation)
fits_read p log past incarnation reader behind_it entry fits is = record {
  base = fits.base;
  counts = λ going. let counts = fits.counts refl in record { counted = counts.counted; younger = counts.younger };
  next = let next = fits.next in (
    next.0 ∙ sym is.is_next.0,
    let older = next.1 in let later = is.is_next.1 in omega (arith, older, later),
    is.is_next.2,
    is.is_next.3,
    is.behind,
  );
}

pub fits_end : (p : Partition) (log : Option OpenedLog) (past : List ℕ) (incarnation : ℕ) (reader : EntryReader) (end : _) → FitsCourse p (course_of log (More reader) past incarnation) → FitsCourse p (course_of log (End end) past incarnation)
fits_end p log past incarnation reader end fits = record {
  base = fits.base;
  counts = λ going. let counts = fits.counts refl in record { counted = counts.counted; younger = counts.younger };
  next = tt;
}

-- ---- the next entry is placed

pub incarnation_both : (incarnation : ℕ) (a b : List Entry) → incarnation_behind incarnation (a ++ b) ≡ incarnation_behind (incarnation_behind incarnation a) b
incarnation_both incarnation [] b = refl
incarnation_both incarnation (entry ∷ a) b = incarnation_both (entry.incarnation + 1) a b

pub incarnations_both : (a b : List Entry) → incarnations_in (a ++ b) ≡ incarnations_in a ++ incarnations_in b
incarnations_both a b = map-append (λ (e : Entry). e.incarnation) a b

pub log_taken : (steps : List Step) (done : List Entry) (log : Option OpenedLog) (entry : read.Entry) (behind_it : EntryReader) → IsLog steps done log (Waits entry behind_it) → IsLog steps (done ++ entry_of entry ∷ []) log (More behind_it)
log_taken steps done None entry behind_it is = absurd is
log_taken steps done (Some log) entry behind_it is = is

pub log_refused : (steps : List Step) (done : List Entry) (log : Option OpenedLog) (entry : read.Entry) (behind_it : EntryReader) → IsLog steps done log (Waits entry behind_it) → IsLog steps done log (Refused entry behind_it)
log_refused steps done None entry behind_it is = absurd is
log_refused steps done (Some log) entry behind_it is = is

pub course_taken : (steps : List Step) (done : List Entry) (log : Option OpenedLog) (entry : read.Entry) (behind_it : EntryReader) (past : List ℕ) (incarnation : ℕ) → IsCourse steps done (course_of log (Waits entry behind_it) past incarnation)
    → IsCourse steps (done ++ entry_of entry ∷ []) (course_of log (More behind_it) (past ++ entry.incarnation ∷ []) (entry.incarnation + 1))
course_taken steps done log entry behind_it past incarnation is = record {
  past = ap (λ (l : List ℕ). l ++ entry.incarnation ∷ []) is.past ∙ sym (incarnations_both done (entry_of entry ∷ []));
  incarnation = sym (incarnation_both 0 done (entry_of entry ∷ []));
  log = log_taken steps done log entry behind_it is.log;
}

pub course_refused : (steps : List Step) (done : List Entry) (log : Option OpenedLog) (entry : read.Entry) (behind_it : EntryReader) (past : List ℕ) (incarnation : ℕ) → IsCourse steps done (course_of log (Waits entry behind_it) past incarnation)
    → IsCourse steps done (course_of log (Refused entry behind_it) past incarnation)
course_refused steps done log entry behind_it past incarnation is = record { past = is.past; incarnation = is.incarnation; log = log_refused steps done log entry behind_it is.log }

pub fits_taken : (p q : Partition) (log : Option OpenedLog) (entry : read.Entry) (behind_it : EntryReader) (past : List ℕ) (incarnation : ℕ) → FitsCourse p (course_of log (Waits entry behind_it) past incarnation) → q.position ≡ p.position + 1 → q.incarnation ≡ entry.incarnation
    → FitsCourse q (course_of log (More behind_it) (past ++ entry.incarnation ∷ []) (entry.incarnation + 1))
fits_taken p q log entry behind_it past incarnation fits position own =
    let next = fits.next in
    let there : p.position ≡ entry.position = next.0 in
    let goes : next_in behind_it ≡ behind (entry_of entry) = next.4 in
    let at : (next_in behind_it).position ≡ entry.position + 1 = ap (λ (n : Next). n.position) goes in
    let of : (next_in behind_it).incarnation ≡ entry.incarnation = ap (λ (n : Next). n.incarnation) goes in
    record {
      base = fits.base;
      counts = λ going. record {
        counted = let counted = (fits.counts refl).counted in let long = length-append past (entry.incarnation ∷ []) in omega (arith, position, counted, long);
        younger = omega (arith, own);
      };
      next = (omega (arith, position, there, at), omega (arith, own, of));
    }

pub fits_refused : (p q : Partition) (log : Option OpenedLog) (entry : read.Entry) (behind_it : EntryReader) (past : List ℕ) (incarnation : ℕ) → FitsCourse p (course_of log (Waits entry behind_it) past incarnation) → FitsCourse q (course_of log (Refused entry behind_it) past incarnation)
fits_refused p q log entry behind_it past incarnation fits = record { base = fits.base; counts = λ going. absurd (cc going); next = tt }

-- ---- what is accepted

module _ (flows : Flows) (count : ℕ) (parts : ℕ → Partition) (place : ℕ) (entry : Entry) where
  pub ready_accepted : (made : Option Partition) → are_ready parts place entry.items ≡ true → entry_accepted flows count (parts place) entry ≡ made → commit_accepted flows count parts place entry ≡ made
  ready_accepted made ready is = ap (λ (b : Bool). if b then entry_accepted flows count (parts place) entry else None) ready ∙ is

  pub unready_refused : are_ready parts place entry.items ≡ false → commit_accepted flows count parts place entry ≡ None
  unready_refused unready = ap (λ (b : Bool). if b then entry_accepted flows count (parts place) entry else None) unready

  pub refused_anyway : entry_accepted flows count (parts place) entry ≡ None → commit_accepted flows count parts place entry ≡ None
  refused_anyway is = by (are_ready parts place entry.items)
    where
      by : (b : Bool) → (if b then entry_accepted flows count (parts place) entry else None) ≡ None
      by true = is
      by false = refl

-- what comes of a partition that halts because its entry was refused, or because there is none
pub still_halts : (flows : Flows) (count : ℕ) (parts : ℕ → Partition) (place : ℕ) (entry : read.Entry) (behind_it : EntryReader) → IsStill flows count (parts place) (Refused entry behind_it) → Halts flows count parts place (Refused entry behind_it)
still_halts flows count parts place entry behind_it still = still.0

-- ---- the front of a log

front_front : (a b : List Entry) (left : Result (List Entry × ℕ) ℕ) → with_front a (with_front b left) ≡ with_front (a ++ b) left
front_front a b (Ok more) = ap (λ (l : List Entry). Ok (l, more.1)) (sym (append_assoc a b more.0))
front_front a b (Err offset) = refl

-- of a log that can be read to its end, what is left behind entries can be
rest_of : (done : List Entry) (rest : Result (List Entry × ℕ) ℕ) (whole : List Entry × ℕ) → with_front done rest ≡ Ok whole → (left : List Entry × ℕ) × (rest ≡ Ok left)
rest_of done (Ok left) whole is = (left, refl)
rest_of done (Err offset) whole is = absurd (cc is)

pub front_of : (flows : Flows) (steps : List Step) (log : OpenedLog) (count place : ℕ) (done : List Entry) (p : Partition) (entry : read.Entry) (behind_it : EntryReader) (past : List ℕ) (incarnation : ℕ) → IsCourse steps done (course_of (Some log) (Waits entry behind_it) past incarnation)
    → FitsCourse p (course_of (Some log) (Waits entry behind_it) past incarnation) → alone.placed flows count (fresh place) done ≡ Ok p → IsWhole steps (Some log) → IsFront flows steps log count place entry.position done p
front_of flows steps log count place done p entry behind_it past incarnation is fits chain whole =
    let rest = left_in (content_of log.file steps) behind_it in
    let left = rest_of (done ++ entry_of entry ∷ []) rest whole.0 (is.log.1.left ∙ whole.1) in
    record {
      many =
          let long = length-map done (λ (e : Entry). e.incarnation) in
          let same : length past ≡ length (incarnations_in done) = ap (λ (l : List ℕ). length l) is.past in
          let counted = (fits.counts refl).counted in
          let there : p.position ≡ entry.position = fits.next.0 in
          omega (arith, long, same, counted, there);
      left = (entry_of entry ∷ left.0.0, left.0.1);
      front =
          front_front done (entry_of entry ∷ []) (Ok left.0) ∙ ap (with_front (done ++ entry_of entry ∷ [])) (sym left.1) ∙ is.log.1.left;
      chain = chain;
    }

-- ---- entry after entry

-- Entries were placed one after another.
pub record InLoop (flows : Flows) (count : ℕ) (steps : List Step) (place : ℕ) (done : List Entry) (old now : ℕ → Partition) (course : Course) (moved : Bool) : Type 0 where
  pub entries : List Entry
  pub made : states_after flows count old (commits_at place entries) ≡ Some now
  pub course_is : IsCourse steps (done ++ entries) course
  pub chain : IsChain flows count place (done ++ entries) now
  pub still : IsStill flows count (now place) course.comes
  pub none : moved ≡ false → entries ≡ []

pub commits_both : (place : ℕ) (a b : List Entry) → commits_at place (a ++ b) ≡ commits_at place a ++ commits_at place b
commits_both place [] b = refl
commits_both place (entry ∷ a) b = ap (λ (l : List Commit). record { partition = place; entry = entry } ∷ l) (commits_both place a b)

module _ (flows : Flows) (count : ℕ) (steps : List Step) (place : ℕ) (done : List Entry) (old : ℕ → Partition) where
  pub none_yet : (course : Course) → IsCourse steps done course → IsChain flows count place done old → IsStill flows count (old place) course.comes → InLoop flows count steps place done old old course false
  none_yet course is chain still = record {
    entries = [];
    made = refl;
    course_is = subst (λ (l : List Entry). IsCourse steps l course) (sym (append-nil done)) is;
    chain = subst (λ (l : List Entry). IsChain flows count place l old) (sym (append-nil done)) chain;
    still = still;
    none = λ same. refl;
  }

  -- one entry more
  pub one_more : (now new : ℕ → Partition) (was read_it course : Course) (moved : Bool) (so_far : InLoop flows count steps place done old now was moved) → IsCourse steps (done ++ so_far.entries) read_it
      → HasTaken flows count steps place (done ++ so_far.entries) now new course → InLoop flows count steps place done old new course true
  one_more now new was read_it course moved so_far is takes =
      let entry = takes.entry in
      let entries = so_far.entries ++ entry ∷ [] in
      let same : (done ++ so_far.entries) ++ entry ∷ [] ≡ done ++ entries = append_assoc done so_far.entries (entry ∷ []) in
      let here : new place ≡ takes.next = ap (λ (f : ℕ → Partition). f place) takes.states ∙ part_here now place takes.next in
      let own : entry_accepted flows count (now place) entry ≡ Some takes.next = (accepted_parts flows count now place entry takes.next takes.accepted).1 in
      record {
        entries = entries;
        made =
            ap (states_after flows count old) (commits_both place so_far.entries (entry ∷ []))
            ∙ put_then flows count old now new (commits_at place so_far.entries) (commits_at place (entry ∷ [])) so_far.made
            (ap (option_and_then (λ (next : Partition). Some (with_part now place next))) takes.accepted ∙ ap (λ (f : ℕ → Partition). Some f) (sym takes.states));
        course_is = subst (λ (l : List Entry). IsCourse steps l course) same takes.course_is;
        chain = subst (λ (l : List Entry). IsChain flows count place l new) same (
            placed_both flows count (fresh place) (done ++ so_far.entries) (entry ∷ [])
            ∙ ap (λ (r : Result Partition ℕ). r >>= λ q. alone.placed flows count q (entry ∷ [])) so_far.chain
            ∙ ap (λ (o : Option Partition). or_place entry.position o >>= λ next. Ok next) own ∙ ap (λ (p : Partition). Ok p) (sym here)
            );
        still = subst (λ (p : Partition). IsStill flows count p course.comes) (sym here) takes.still;
        none = λ wrong. absurd (cc wrong);
      }

  -- no more
  pub no_more : (now new : ℕ → Partition) (was course : Course) (moved : Bool) (so_far : InLoop flows count steps place done old now was moved) → HasHalted flows count steps place (done ++ so_far.entries) now new course
      → GoesFar flows count steps place done old new course moved
  no_more now new was course moved so_far halts = record {
    entries = so_far.entries;
    made = so_far.made ∙ ap (λ (f : ℕ → Partition). Some f) (sym halts.states);
    course_is = halts.course_is;
    still = subst (λ (f : ℕ → Partition). IsStill flows count (f place) course.comes) (sym halts.states) halts.still;
    halts = subst (λ (f : ℕ → Partition). Halts flows count f place course.comes) (sym halts.states) halts.halts;
    none = so_far.none;
  }

-- ---- whatever comes of the states

pub stays_read : (steps : List Step) (done : List Entry) (course : Course) → IsCourse steps done course → ReadsFurther steps done course
stays_read steps done course is = ([], subst (λ (l : List Entry). IsCourse steps l course) (sym (append-nil done)) is)

pub further_read : (steps : List Step) (done more : List Entry) (course : Course) → ReadsFurther steps (done ++ more) course → ReadsFurther steps done course
further_read steps done more course reads = (more ++ reads.0, subst (λ (l : List Entry). IsCourse steps l course) (append_assoc done more reads.0) reads.1)
