-- What the files stand for, by how far all logs have come.
use Rattle.std.proofs.Common.{◌≡◌, ◌∙◌, inl, inr, ℕ, zero, suc, ◌<◌, ◌≤◌, Bool, true, false, List, [], ◌∷◌, ◌++◌, length, drop, Option, Some, None, Result, Ok, Err, refl, sym, ap, subst, arith}
use Rattle.std.specs.Prelude.{IfSome, IfOk, OnErr, if◌then◌else◌}
use Rattle.std.specs.List.{slice_get}
use Rattle.std.proofs.lemmas.Bool.{cases_lt}
use Rattle.std.proofs.lemmas.Option.{slice_get_within}
use Rattle.site_model.specs.History.{Step, content_of}
use Rattle.commit_log.specs.declared.reader.OpenedLog.{OpenedLog}
use Rattle.commit_log.specs.declared.states.Resting.{Resting}
use Rattle.dura_value.specs.Items.{Entry}
use Rattle.flow_syntax.specs.Syntax.{Flows}
use Rattle.dura_model.specs.Entries.{entry_accepted}
use Rattle.dura_model.specs.Partition.{Partition, fresh}
use Rattle.log_files.specs.Checked.{asked_for}
use Rattle.log_files.specs.Fitting.{IsChosen}
use Rattle.log_items.specs.Plain.{entry_of}
use Rattle.many_logs.specs.Placing.{Commit, Placing, of_partition, placed, HasPlaced, IsStuck, are_ready, commit_accepted}
use Rattle.many_logs.specs.Unplaced.{Unplaced, illegal, unclosed, unplaced, why, why_of, lowest_left, next_of}
use Rattle.many_logs.proofs.Orders.{any_order, any_order_so_far}
use Rattle.part_items.specs.Logs.{Asked, logs_in, entries_in, or_else}
use Rattle.part_steps.specs.declared.state.PartState.{PartState}
use Rattle.part_steps.specs.States.{AreStatesOfAll, parts_in}
use Rattle.recover_core.specs.Begun.{AllBegun, AllFromFresh}
use Rattle.recover_core.specs.Courses.{IsLog, IsCourse, FitsNext, IsStill, IsWhole, Halts, Counts, FitsCourse, is_refused}
use Rattle.recover_core.specs.Ended.{has_ended, EndsBelow, IsEndOf, AreEndsOf}
use Rattle.recover_core.specs.Recovering.{AreLogs, IsLifeOf, AreOpened, IsLeft, Opens, Refuses, CanGoOn, RestsFor, AllRest}
use Rattle.recover_core.specs.Rounds.{AreReady, AllRead, ArePlaced, HasPlacedAll, IsOutside}
use Rattle.recover_core.specs.Told.{AllKeep, RefusesAll, error_of, TellsLeft, IsReasonOr}
use Rattle.recover_core.specs.declared.course.Comes.{Comes}
use Rattle.recover_core.specs.declared.course.Comes.TheVariants.{More, Waits, Refused, End}
use Rattle.recover_core.specs.declared.course.Course.{Course}
use Rattle.recover_core.specs.declared.ending.Life.{Life}
use Rattle.recover_core.specs.declared.error.RecoverError.{RecoverError}
use Rattle.recover_core.specs.declared.error.RecoverError.TheVariants as errors
use Rattle.recover_core.specs.declared.recovery.Opened.{Opened}
use Rattle.log_files.specs.declared.error.FilesError.{FilesError}
use Rattle.log_files.specs.declared.error.FilesError.TheVariants as unfit
use Rattle.log_files.specs.Checked.{RefusesFirst}
use Rattle.recover_core.proofs.LogsWhole.{logs_of, not_past, chosen_at, kept_whole_all, ended_log, ended_entries, logs_here, part_of_course, Begins, IsPart}

-- ---- why files are refused

pub fault_refuses : (flows : Flows) (count digest : ℕ) (files : ℕ → List ℕ) (fault : FilesError) → RefusesFirst count digest files fault → Refuses flows count digest files (error_of fault)
fault_refuses flows count digest files (unfit.Damaged file offset) refuses = refuses
fault_refuses flows count digest files (unfit.OtherShape found asked) refuses = refuses
fault_refuses flows count digest files (unfit.OtherFlows found given) refuses = refuses
fault_refuses flows count digest files unfit.SiteFault refuses = tt
fault_refuses flows count digest files unfit.Memory refuses = tt

pub all_refuses : (flows : Flows) (count digest : ℕ) (files : ℕ → List ℕ) (error : RecoverError) → RefusesAll count digest files error → Refuses flows count digest files error
all_refuses flows count digest files error refuses = subst (Refuses flows count digest files) (sym refuses.1) (fault_refuses flows count digest files refuses.0 refuses.2)

pub outside_refuses : (flows : Flows) (count digest : ℕ) (files : ℕ → List ℕ) (error : RecoverError) → IsOutside error → Refuses flows count digest files error
outside_refuses flows count digest files errors.SiteFault is = tt
outside_refuses flows count digest files errors.Memory is = tt
outside_refuses flows count digest files (errors.Damaged file offset) is = absurd is
outside_refuses flows count digest files (errors.OtherShape found asked) is = absurd is
outside_refuses flows count digest files (errors.OtherFlows found given) is = absurd is
outside_refuses flows count digest files (errors.Illegal partition position) is = absurd is
outside_refuses flows count digest files (errors.Unclosed partition position src seq) is = absurd is

-- the reason why an entry is left
module _ (flows : Flows) (count digest : ℕ) (files : ℕ → List ℕ) (logs : ℕ → List Entry) (kept : AreLogs count digest files logs) where
  left_for : (reason : Unplaced) (found : Option Unplaced) → unplaced flows count (placed flows count logs) ≡ found → found ≡ Some reason → IsLeft flows count digest files reason
  left_for reason found is same = record { logs = logs; kept = kept; why = is ∙ same }

  pub reason_refuses : (error : RecoverError) (found : Option Unplaced) → unplaced flows count (placed flows count logs) ≡ found → IsReasonOr error found → Refuses flows count digest files error
  reason_refuses errors.Memory found is reason = tt
  reason_refuses errors.SiteFault found is reason = tt
  reason_refuses (errors.Illegal partition position) (Some one) is reason = left_for (illegal partition position) (Some one) is (ap (λ (u : Unplaced). Some u) reason)
  reason_refuses (errors.Illegal partition position) None is reason = absurd reason
  reason_refuses (errors.Unclosed partition position src seq) (Some one) is reason = left_for (unclosed partition position src seq) (Some one) is (ap (λ (u : Unplaced). Some u) reason)
  reason_refuses (errors.Unclosed partition position src seq) None is reason = absurd reason
  reason_refuses (errors.Damaged file offset) (Some one) is reason = absurd reason
  reason_refuses (errors.Damaged file offset) None is reason = absurd reason
  reason_refuses (errors.OtherShape some asked) (Some one) is reason = absurd reason
  reason_refuses (errors.OtherShape some asked) None is reason = absurd reason
  reason_refuses (errors.OtherFlows some given) (Some one) is reason = absurd reason
  reason_refuses (errors.OtherFlows some given) None is reason = absurd reason

-- ---- the lowest partition that has an entry left

none_below : (most : ℕ) (s : Placing) → ((lower : ℕ) → lower < most → s.left lower ≡ []) → lowest_left most s ≡ None
none_below zero s none = refl
none_below (suc most) s none =
    ap (λ (o : Option Commit). or_else o (next_of most (s.left most))) (none_below most s (λ lower below. none lower (omega (arith, below))))
    ∙ ap (next_of most) (none most (omega arith))

lowest_is : (most place : ℕ) (s : Placing) (entry : Entry) (entries : List Entry) → place < most → ((lower : ℕ) → lower < place → s.left lower ≡ []) → s.left place ≡ entry ∷ entries
    → lowest_left most s ≡ Some (record { partition = place; entry = entry })
lowest_is zero place s entry entries below none left = absurd (omega (arith, below))
lowest_is (suc most) place s entry entries below none left = elim (cases_lt place most) [
  | inl lower ↦ ap (λ (o : Option Commit). or_else o (next_of most (s.left most))) (lowest_is most place s entry entries lower none left)
  | inr past ↦
      let same : most ≡ place = omega (arith, below, past) in
      ap (λ (o : Option Commit). or_else o (next_of most (s.left most))) (none_below most s (λ lower inside. none lower (omega (arith, inside, same))))
      ∙ ap (λ (p : ℕ). next_of p (s.left p)) same
      ∙ ap (next_of place) left
]

-- ---- how far all logs have come

drop_front : (a b : List Entry) → drop (length a) (a ++ b) ≡ b
drop_front [] b = refl
drop_front (x ∷ a) b = drop_front a b

ended_is : (comes : Comes) → has_ended comes ≡ true → (end : Option Resting) × (comes ≡ End end)
ended_is (End end) is = (end, refl)
ended_is (More reader) is = absurd (cc is)
ended_is (Waits entry reader) is = absurd (cc is)
ended_is (Refused entry reader) is = absurd (cc is)

begun_still : (flows : Flows) (count : ℕ) (p : Partition) (comes : Comes) → is_refused comes ≡ false → IsStill flows count p comes
begun_still flows count p (End end) is = tt
begun_still flows count p (More reader) is = tt
begun_still flows count p (Waits entry reader) is = tt
begun_still flows count p (Refused entry reader) is = absurd (cc is)

not_ready : (flows : Flows) (count : ℕ) (parts : ℕ → Partition) (place : ℕ) (entry : Entry) → entry_accepted flows count (parts place) entry ≡ None → commit_accepted flows count parts place entry ≡ None
not_ready flows count parts place entry none = by (are_ready parts place entry.items)
  where
    by : (ready : Bool) → (if ready then entry_accepted flows count (parts place) entry else None) ≡ None
    by true = none
    by false = refl

-- what recovery begins with
pub begun_ready : (states : List PartState) (courses : List Course) → AreStatesOfAll states → length courses ≡ length states → parts_in states ≡ fresh → AllFromFresh courses → AreReady states courses
begun_ready states courses all many is fits = record { all = all; many = many; each = λ place course at. subst (λ (f : ℕ → Partition). FitsCourse (f place) course) (sym is) (fits place course at) }

-- where all logs ended, what is kept of them goes on from the states
ended_counts : (p : Partition) (course : Course) (life : Life) → FitsCourse p course → IsEndOf course life → Counts p course
ended_counts p course life fits ends = fits.counts (ap is_refused ends.ended)

-- the course of which a life is kept
pub life_course : (courses : List Course) (lives : List Life) → AreEndsOf courses lives → (partition : ℕ) (life : Life) → slice_get lives partition ≡ Some life → (course : Course) × (slice_get courses partition ≡ Some course)
life_course courses lives ends partition life at = by (slice_get courses partition) refl
  where
    by : (found : Option Course) → slice_get courses partition ≡ found → (course : Course) × (slice_get courses partition ≡ Some course)
    by (Some course) is = (course, is)
    by None is =
        let inside = slice_get_within lives partition life at in
        let long = ends.many in
        absurd (not_past courses partition (omega (arith, inside, long)) is)

pub can_go_on : (count : ℕ) (opened : Opened) (courses : List Course) → AreReady opened.states.items courses → length opened.states.items ≡ count → AreEndsOf courses opened.lives.items → CanGoOn count opened
can_go_on count opened courses ready many ends = record {
  all = ready.all;
  many = many;
  lives = ends.many ∙ ready.many ∙ many;
  counted = λ partition life at. let one = life_course courses opened.lives.items ends partition life at in let is = ends.each partition one.0 life one.1 at in
      (ended_counts (parts_in opened.states.items partition) one.0 life (ready.each partition one.0 one.1) is).counted ∙ ap (λ (l : List ℕ). length l) (sym is.past);
  younger = λ partition life at. let one = life_course courses opened.lives.items ends partition life at in let is = ends.each partition one.0 life one.1 at in
      subst (λ (n : ℕ). (parts_in opened.states.items partition).incarnation ≤ n) (sym is.incarnation) (ended_counts (parts_in opened.states.items partition) one.0 life (ready.each partition one.0 one.1) is).younger;
}

-- a log that ended rests in its file
rests_at : (asked : Asked) (steps : List Step) (done : List Entry) (log : Option OpenedLog) (end : Option Resting) → IsChosen asked steps log → IsLog steps done log (End end) → IfSome end (RestsFor steps asked (logs_here asked steps))
rests_at asked steps done None None chosen is = tt
rests_at asked steps done None (Some end) chosen is = absurd is
rests_at asked steps done (Some log) None own is = absurd is
rests_at asked steps done (Some log) (Some end) own is = record {
  header = log.header;
  payloads = is.payloads;
  entries = done;
  rests = is.rests;
  kept = ended_entries asked steps done (Some log) (Some end) own is;
  decoded = is.decoded;
  partition = own.partition;
  partitions = own.partitions;
  of_flows = own.digest;
  base = own.base;
}

-- the first entry of what is left isn't accepted
not_accepted : (flows : Flows) (count : ℕ) (parts : ℕ → Partition) (place : ℕ) (comes : Comes) (rest : List Entry) (entry : Entry) (entries : List Entry) → Begins comes rest → rest ≡ entry ∷ entries → Halts flows count parts place comes
    → commit_accepted flows count parts place entry ≡ None
not_accepted flows count parts place (End end) rest entry entries begins is halts = let wrong : [] ≡ entry ∷ entries = sym begins ∙ is in absurd (cc wrong)
not_accepted flows count parts place (More reader) rest entry entries begins is halts = absurd halts
not_accepted flows count parts place (Waits one reader) rest entry entries begins is halts =
    let both : entry_of one ∷ begins.0 ≡ entry ∷ entries = sym begins.1 ∙ is in
    let same : entry_of one ≡ entry = cc both in
    subst (λ (e : Entry). commit_accepted flows count parts place e ≡ None) same halts
not_accepted flows count parts place (Refused one reader) rest entry entries begins is halts =
    let both : entry_of one ∷ begins.0 ≡ entry ∷ entries = sym begins.1 ∙ is in
    let same : entry_of one ≡ entry = cc both in
    subst (λ (e : Entry). commit_accepted flows count parts place e ≡ None) same (not_ready flows count parts place (entry_of one) halts)

-- the entry that is left of a course that didn't end, and where it stands
next_left : (flows : Flows) (count : ℕ) (parts : ℕ → Partition) (place : ℕ) (course : Course) (rest : List Entry) (error : RecoverError) → has_ended course.comes ≡ false → Begins course.comes rest → Halts flows count parts place course.comes → FitsCourse (parts place) course
    → IsStill flows count (parts place) course.comes → TellsLeft flows count parts place course.comes error
    → (entry : Entry) × (more : List Entry) × (rest ≡ entry ∷ more) × IsReasonOr error (why flows count parts (record { partition = place; entry = entry }))
next_left flows count parts place course rest error left begins halts fits still tells = by course.comes left begins halts fits.next still tells
  where
    by : (comes : Comes) → has_ended comes ≡ false → Begins comes rest → Halts flows count parts place comes → FitsNext (parts place) course.incarnation comes → IsStill flows count (parts place) comes → TellsLeft flows count parts place comes error
        → (entry : Entry) × (more : List Entry) × (rest ≡ entry ∷ more) × IsReasonOr error (why flows count parts (record { partition = place; entry = entry }))
    by (End end) going next_is halted stands never says = absurd (cc going)
    by (More reader) going next_is halted stands never says = absurd halted
    by (Waits one reader) going next_is halted stands never says = (entry_of one, next_is.0, next_is.1, says halted (stands.0, stands.1, stands.2))
    by (Refused one reader) going next_is halted stands never says = (entry_of one, next_is.0, next_is.1, says (not_ready flows count parts place (entry_of one) halted) never.1)

module _ (flows : Flows) (count digest : ℕ) (steps : List Step) (first : List Course) (many : length first ≡ count) (begun : AllBegun count digest steps first) where
  abbrev files : ℕ → List ℕ
  files = λ file. content_of file steps

  -- nothing was placed yet
  pub begun_placed : (parts : ℕ → Partition) → parts ≡ fresh → ArePlaced flows count steps parts first
  begun_placed parts is = record {
    run = [];
    below = tt;
    made = ap (λ (f : ℕ → Partition). Some f) (sym is);
    each = λ place course at. let one = begun place course at in record { course_is = one.course_is; still = begun_still flows count (parts place) course.comes one.going };
  }

  module _ (courses : List Course) (same_many : length courses ≡ length first) (all : AllRead steps (logs_of first) courses) where
    -- the course of each partition
    pub course_at : (partition : ℕ) → partition < count → (course : Course) × (slice_get courses partition ≡ Some course)
    course_at partition below = by (slice_get courses partition) refl
      where
        by : (found : Option Course) → slice_get courses partition ≡ found → (course : Course) × (slice_get courses partition ≡ Some course)
        by (Some course) is = (course, is)
        by None is = absurd (not_past courses partition (omega (arith, below, many, same_many)) is)

    log_chosen : (partition : ℕ) (course : Course) → slice_get courses partition ≡ Some course → IsChosen (asked_for count digest partition) steps course.log
    log_chosen partition course at =
        let inside = slice_get_within courses partition course at in
        chosen_at count digest steps first begun partition course.log (omega (arith, inside, same_many)) (all partition course at).0

    -- ---- all ended

    module _ (ended : EndsBelow (length courses) courses) where
      pub end_at : (partition : ℕ) (course : Course) → slice_get courses partition ≡ Some course → (end : Option Resting) × (course.comes ≡ End end)
      end_at partition course at = ended_is course.comes (ended partition course (slice_get_within courses partition course at) at)

      log_ended : (partition : ℕ) (course : Course) (done : List Entry) (end : Option Resting) → course.comes ≡ End end → IsCourse steps done course → IsLog steps done course.log (End end)
      log_ended partition course done end is course_is = subst (λ (comes : Comes). IsLog steps done course.log comes) is course_is.log

      pub entries_at : (partition : ℕ) (course : Course) (done : List Entry) → slice_get courses partition ≡ Some course → IsCourse steps done course → entries_in (logs_in (asked_for count digest partition) files) ≡ Some done
      entries_at partition course done at course_is =
          let end = end_at partition course at in
          ended_entries (asked_for count digest partition) steps done course.log end.0 (log_chosen partition course at) (log_ended partition course done end.0 end.1 course_is)

      life_at : (partition : ℕ) (course : Course) (done : List Entry) (life : Life) → slice_get courses partition ≡ Some course → IsCourse steps done course → IsEndOf course life → IsLifeOf (logs_in (asked_for count digest partition) files) done life
      life_at partition course done life at course_is ends = record {
        past = ends.past ∙ course_is.past;
        incarnation = ends.incarnation ∙ course_is.incarnation;
        log = ended_log (asked_for count digest partition) steps done course.log life.log (log_chosen partition course at) (log_ended partition course done life.log ends.ended course_is);
      }

      pub all_rest : (lives : List Life) → AreEndsOf courses lives → AllRest steps count digest files lives
      all_rest lives ends partition life at =
          let inside = slice_get_within lives partition life at in
          let long = ends.many in
          let one = course_at partition (omega (arith, inside, long, many, same_many)) in
          let read = all partition one.0 one.1 in
          rests_at (asked_for count digest partition) steps read.1.0 one.0.log life.log (log_chosen partition one.0 one.1) (log_ended partition one.0 read.1.0 life.log (ends.each partition one.0 life one.1 at).ended read.1.1)

      pub all_opened : (opened : Opened) (parts : ℕ → Partition) → HasPlacedAll flows count steps parts courses → parts_in opened.states.items ≡ parts → AreEndsOf courses opened.lives.items → AreOpened flows count digest files opened
      all_opened opened parts gone states ends =
          let logs : ℕ → List Entry = λ partition. of_partition partition gone.placed.run in
          let they = any_order flows count gone.placed.run logs parts gone.placed.below gone.placed.made (λ partition below. refl) in
          record {
            logs = logs;
            kept = λ partition below. let one = course_at partition below in entries_at partition one.0 (logs partition) one.1 (gone.placed.each partition one.0 one.1).course_is;
            none_left = they.left;
            states = states ∙ sym they.states;
            lives = λ partition life at.
                let inside = slice_get_within opened.lives.items partition life at in
                let lives_many = ends.many in
                let one = course_at partition (omega (arith, inside, lives_many, many, same_many)) in
                life_at partition one.0 (logs partition) life one.1 (gone.placed.each partition one.0 one.1).course_is (ends.each partition one.0 life one.1 at);
          }

    -- ---- one didn't

    module _ (keeps : AllKeep count digest files) (parts : ℕ → Partition) (gone : HasPlacedAll flows count steps parts courses) where
      abbrev entries_or : Option (List Entry) → List Entry
      entries_or None = []
      entries_or (Some entries) = entries

      abbrev logs : ℕ → List Entry
      logs partition = entries_or (entries_in (logs_in (asked_for count digest partition) files))

      logs_are : AreLogs count digest files logs
      logs_are partition below = let is = (keeps partition below).1 in is ∙ ap (λ (o : Option (List Entry)). Some (entries_or o)) (sym is)

      abbrev done : ℕ → List Entry
      done partition = of_partition partition gone.placed.run

      abbrev rest : ℕ → List Entry
      rest partition = drop (length (done partition)) (logs partition)

      part_at : (partition : ℕ) (course : Course) → slice_get courses partition ≡ Some course → IsPart (logs_in (asked_for count digest partition) files) (done partition) course.comes
      part_at partition course at =
          part_of_course (asked_for count digest partition) steps (done partition) course.log course.comes (log_chosen partition course at)
          (subst (IsWhole steps) (sym (all partition course at).0) (kept_whole_all count digest steps first begun many keeps partition)) (gone.placed.each partition course at).course_is.log

      logs_part : (partition : ℕ) (course : Course) (at : slice_get courses partition ≡ Some course) → logs partition ≡ done partition ++ (part_at partition course at).rest
      logs_part partition course at = ap entries_or (part_at partition course at).kept

      rest_part : (partition : ℕ) (course : Course) (at : slice_get courses partition ≡ Some course) → rest partition ≡ (part_at partition course at).rest
      rest_part partition course at = ap (drop (length (done partition))) (logs_part partition course at) ∙ drop_front (done partition) (part_at partition course at).rest

      rest_begins : (partition : ℕ) (course : Course) → slice_get courses partition ≡ Some course → Begins course.comes (rest partition)
      rest_begins partition course at = subst (Begins course.comes) (sym (rest_part partition course at)) (part_at partition course at).begins

      stuck : IsStuck flows count parts rest
      stuck partition below entry entries is =
          let one = course_at partition below in
          not_accepted flows count parts partition one.0.comes (rest partition) entry entries (rest_begins partition one.0 one.1) is (gone.halt partition one.0 one.1)

      they_left : HasPlaced count (placed flows count logs) parts rest
      they_left =
          any_order_so_far flows count gone.placed.run logs rest parts gone.placed.below gone.placed.made
          (λ partition below. let one = course_at partition below in logs_part partition one.0 one.1 ∙ ap (λ (l : List Entry). done partition ++ l) (sym (rest_part partition one.0 one.1))) stuck

      ended_rest : (lower : ℕ) (course : Course) → slice_get courses lower ≡ Some course → has_ended course.comes ≡ true → rest lower ≡ []
      ended_rest lower course at ended = let end = ended_is course.comes ended in subst (λ (comes : Comes). Begins comes (rest lower)) end.1 (rest_begins lower course at)

      pub left_refuses : (place : ℕ) (course : Course) (error : RecoverError) → place < count → EndsBelow place courses → slice_get courses place ≡ Some course → has_ended course.comes ≡ false → FitsCourse (parts place) course
          → TellsLeft flows count parts place course.comes error → Refuses flows count digest files error
      left_refuses place course error below ended at going fits tells =
          let next = next_left flows count parts place course (rest place) error going (rest_begins place course at) (gone.halt place course at) fits (gone.placed.each place course at).still tells in
          let they = they_left in
          let lowest =
          lowest_is count place (placed flows count logs) next.0 next.1 below (λ lower inside. let one = course_at lower (omega (arith, inside, below)) in they.left lower (omega (arith, inside, below)) ∙ ended_rest lower one.0 one.1 (ended lower one.0 inside one.1))
          (they.left place below ∙ next.2) in
          let reason : unplaced flows count (placed flows count logs) ≡ why flows count parts (record { partition = place; entry = next.0 }) =
          ap (why_of flows count (placed flows count logs).states) lowest ∙ ap (λ (f : ℕ → Partition). why flows count f (record { partition = place; entry = next.0 })) they.states in
          reason_refuses flows count digest files logs logs_are error (why flows count parts (record { partition = place; entry = next.0 })) reason next.3

-- ---- what is answered where all logs ended

module _ (result : Result Opened RecoverError) (courses : List Course) (states : List PartState) (ends : IfOk result (λ o. (o.states.items ≡ states) × AreEndsOf courses o.lives.items)) where
  pub if_lives : (P : Opened → Type 0) → ((o : Opened) → o.states.items ≡ states → AreEndsOf courses o.lives.items → P o) → IfOk result P
  if_lives P says = by result ends
    where
      by : (r : Result Opened RecoverError) → IfOk r (λ o. (o.states.items ≡ states) × AreEndsOf courses o.lives.items) → IfOk r P
      by (Ok o) is = says o is.0 is.1
      by (Err error) is = tt

pub opens_by : (flows : Flows) (count digest : ℕ) (files : ℕ → List ℕ) (result : Result Opened RecoverError) → OnErr result (result ≡ Err errors.Memory) → IfOk result (AreOpened flows count digest files) → Opens flows count digest files result
opens_by flows count digest files (Ok opened) want is = is
opens_by flows count digest files (Err error) want is = let same : error ≡ errors.Memory = cc want in subst (Refuses flows count digest files) (sym same) tt
