-- Entries are placed, whatever the disk answered.
use Rattle.std.proofs.Common.{◌≡◌, ◌≢◌, ◌∙◌, inl, inr, ℕ, ◌+◌, ◌<◌, true, false, List, [], ◌∷◌, ◌++◌, length, Option, Some, Ok, refl, sym, ap, subst, append_assoc, append-nil}
use Rattle.std.specs.List.{slice_get}
use Rattle.std.specs.Option.{option_and_then}
use Rattle.std.proofs.lemmas.Bool.{cases_eq}
use Rattle.std.proofs.lemmas.Option.{slice_get_within}
use Rattle.dura_value.specs.Items.{Entry, Item}
use Rattle.site_model.specs.History.{Step, content_of}
use Rattle.log_items.specs.Plain.{entry_of}
use Rattle.log_items.specs.declared.frames.Entry as read
use Rattle.flow_syntax.specs.Syntax.{Flows}
use Rattle.dura_model.specs.Partition.{Partition, fresh, with_part}
use Rattle.dura_model.specs.Entries as alone
use Rattle.dura_model.specs.Entries.{entry_accepted}
use Rattle.dura_model.proofs.Appending.{both_placed}
use Rattle.part_items.specs.Numbered.{Next, behind, behind_all, IsNumbered}
use Rattle.part_items.proofs.Behind.{numbered_both}
use Rattle.many_logs.specs.Labels.{state_next}
use Rattle.many_logs.specs.Placing.{Commit, are_ready, states_after, of_partition, commits_at}
use Rattle.many_logs.proofs.Frames.{of_both, of_own, of_other, below_both, below_at, put_then}
use Rattle.many_logs.proofs.Moving.{entry_moves}
use Rattle.many_logs.proofs.Own.{own_chain}
use Rattle.log_files.specs.declared.reader.EntryReader.{EntryReader}
use Rattle.commit_log.specs.declared.reader.OpenedLog.{OpenedLog}
use Rattle.part_steps.specs.declared.state.PartState.{PartState}
use Rattle.part_steps.specs.States.{parts_in}
use Rattle.recover_core.specs.Begun.{AllBegun, AllUnplaced}
use Rattle.recover_core.specs.Courses.{IsCourse, FitsCourse, GoesOnFrom, HasCome, GoesBy, GoesUnrefused, PlacesAt, is_refused}
use Rattle.recover_core.specs.Ended.{EndsBelow, has_ended, AreEndsOf}
use Rattle.recover_core.specs.Recovering.{WerePlaced}
use Rattle.recover_core.specs.Rounds.{AllRead, NoneRefused, HavePlaced}
use Rattle.recover_core.specs.declared.course.Comes.{Comes}
use Rattle.recover_core.specs.declared.course.Comes.TheVariants.{More, Waits, Refused, End}
use Rattle.recover_core.specs.declared.course.Course.{Course}
use Rattle.recover_core.specs.declared.recovery.Opened.{Opened}
use Rattle.recover_core.proofs.Going.{course_of, course_taken, commits_both, incarnation_both, incarnations_both, ready_accepted}
use Rattle.recover_core.proofs.LogsPlaced.{life_course, course_at, entries_at}
use Rattle.recover_core.proofs.LogsWhole.{logs_of}
use Rattle.recover_core.proofs.States.{one_changed}
use Rattle.recover_core.proofs.Turned.{now_at, next_here, next_there, others_stay, others_there}
use Rattle.recover_core.proofs.WentOn.{ReadsAny}

-- ---- where a log goes on

next_behind : (p : Partition) (entry : Entry) → p.position ≡ entry.position + 1 → p.incarnation ≡ entry.incarnation → state_next p ≡ behind entry
next_behind p entry position incarnation = λ i. record { position = position i; incarnation = incarnation i }

-- entries that stand where a partition's log goes on leave it where they end
goes_behind : (flows : Flows) (count : ℕ) (entries : List Entry) (p q : Partition) → alone.placed flows count p entries ≡ Ok q → IsNumbered (state_next p) entries → behind_all (state_next p) entries ≡ state_next q
goes_behind flows count [] p q made numbered = let same : p ≡ q = cc made in ap state_next same
goes_behind flows count (entry ∷ entries) p q made numbered =
    let first = both_placed entry.position (entry_accepted flows count p entry) (λ next. alone.placed flows count next entries) q made in
    let moves = entry_moves flows count entry p first.0 first.1 in
    let here : state_next first.0 ≡ behind entry = next_behind first.0 entry (moves.position ∙ ap (λ (n : ℕ). n + 1) (sym numbered.0)) moves.incarnation in
    ap (λ (n : Next). behind_all n entries) (sym here) ∙ goes_behind flows count entries first.0 q first.2 (subst (λ (n : Next). IsNumbered n entries) (sym here) numbered.2)

-- and so do those of an order
run_behind : (flows : Flows) (count : ℕ) (run : List Commit) (parts later : ℕ → Partition) (place : ℕ) → states_after flows count parts run ≡ Some later → IsNumbered (state_next (parts place)) (of_partition place run)
    → behind_all (state_next (parts place)) (of_partition place run) ≡ state_next (later place)
run_behind flows count run parts later place made numbered = goes_behind flows count (of_partition place run) (parts place) (later place) (own_chain flows count run parts later place made) numbered

-- entries behind others are numbered on
numbered_on : (first now : Next) (a b : List Entry) → behind_all first a ≡ now → IsNumbered first a → IsNumbered now b → IsNumbered first (a ++ b)
numbered_on first now a b goes one two = (numbered_both first a b).1 (one, subst (λ (n : Next). IsNumbered n b) (sym goes) two)

-- ---- an entry is tried

-- none was placed, and the course is as it was
pub none_gone : (flows : Flows) (place : ℕ) (tells : Type 0) (steps : List Step) (states : List PartState) (was course : Course) → was ≡ course → GoesUnrefused flows place tells steps states states was course
none_gone flows place tells steps states was course same = λ going. record {
  going = ap (λ (c : Course). is_refused c.comes) same ∙ going;
  entries = [];
  made = refl;
  numbered = tt;
  come = λ done is. subst (λ (l : List Entry). HasCome l course) (sym (append-nil done)) (subst (HasCome done) same is);
  read = λ told done is. subst (λ (l : List Entry). IsCourse steps l course) (sym (append-nil done)) (subst (IsCourse steps done) same is);
}

-- the next entry waits, and the log behind it
module _ (flows : Flows) (place : ℕ) (tells : Type 0) (steps : List Step) (old new : List PartState) (was : Course) (entry : read.Entry) (behind_it : EntryReader) (waits : was.comes ≡ Waits entry behind_it) where
  -- it was refused
  pub refused_gone : (log : Option OpenedLog) (past : List ℕ) (incarnation : ℕ) (course : Course) → course ≡ course_of log (Refused entry behind_it) past incarnation → GoesUnrefused flows place tells steps old new was course
  refused_gone log past incarnation course same = λ going. let wrong : true ≡ false = sym (ap (λ (c : Course). is_refused c.comes) same) ∙ going in absurd (cc wrong)

  -- it was placed
  pub taken_gone : (log : Option OpenedLog) (items : List Item) (course : Course) → was.log ≡ log → course ≡ course_of log (More behind_it) (was.past ++ entry.incarnation ∷ []) (entry.incarnation + 1) → FitsCourse (parts_in old place) was → items ≡ (entry_of entry).items
      → are_ready (parts_in old) place items ≡ true → PlacesAt flows place (entry_of entry) old new true → GoesUnrefused flows place tells steps old new was course
  taken_gone log items course opened same fits its ready places = λ going. record {
    going = ap is_refused waits;
    entries = entry_of entry ∷ [];
    made =
        let accepted = ready_accepted flows (length old) (parts_in old) place (entry_of entry) (Some (parts_in new place)) (ap (are_ready (parts_in old) place) (sym its) ∙ ready) (places.made refl).0 in
        ap (option_and_then (λ (next : Partition). Some (with_part (parts_in old) place next))) accepted
        ∙ ap (λ (f : ℕ → Partition). Some f) (sym (one_changed (parts_in old) (parts_in new) place (parts_in new place) places.others refl));
    numbered =
        let next = (subst (λ (comes : Comes). FitsCourse (parts_in old place) (course_of was.log comes was.past was.incarnation)) waits fits).next in
        (sym next.0, next.1, tt);
    come = λ done is. record {
      past = ap (λ (c : Course). c.past) same ∙ ap (λ (l : List ℕ). l ++ entry.incarnation ∷ []) is.past ∙ sym (incarnations_both done (entry_of entry ∷ []));
      incarnation = ap (λ (c : Course). c.incarnation) same ∙ sym (incarnation_both 0 done (entry_of entry ∷ []));
    };
    read = λ told done is.
        let here : IsCourse steps done (course_of was.log (Waits entry behind_it) was.past was.incarnation) = subst (λ (comes : Comes). IsCourse steps done (course_of was.log comes was.past was.incarnation)) waits is in
        let there : IsCourse steps done (course_of log (Waits entry behind_it) was.past was.incarnation) = subst (λ (l : Option OpenedLog). IsCourse steps done (course_of l (Waits entry behind_it) was.past was.incarnation)) opened here in
        subst (IsCourse steps (done ++ entry_of entry ∷ [])) (sym same) (course_taken steps done log entry behind_it was.past was.incarnation there);
  }

-- ---- entry after entry

come_on : (done : List Entry) (was course : Course) → course.past ≡ was.past → course.incarnation ≡ was.incarnation → HasCome done was → HasCome done course
come_on done was course past incarnation is = record { past = past ∙ is.past; incarnation = incarnation ∙ is.incarnation }

-- one was read and tried behind those that were placed
pub more_gone : (flows : Flows) (place : ℕ) (before_it between after : Type 0) (steps here there : List Step) (first now new : List PartState) (was course read_it end : Course) → (between → before_it) → (after → between) → here ≡ steps → there ≡ steps → length now ≡ length first
    → GoesUnrefused flows place before_it steps first now was course → GoesOnFrom (parts_in now place) course read_it → (between → ReadsAny here course (Ok read_it))
    → GoesUnrefused flows place after there now new read_it end → GoesUnrefused flows place after steps first new was end
more_gone flows place before_it between after steps here there first now new was course read_it end told told_there same same_there many so_far reads further tries = λ going.
    let count = length first in
    let old = parts_in first in
    let counted : GoesBy flows count place after there (parts_in now) (parts_in new) read_it end = subst (λ (n : ℕ). GoesBy flows n place after there (parts_in now) (parts_in new) read_it end) many (tries going) in
    let tried : GoesBy flows count place after steps (parts_in now) (parts_in new) read_it end = subst (λ (s : List Step). GoesBy flows count place after s (parts_in now) (parts_in new) read_it end) same_there counted in
    let before = so_far (reads.going tried.going) in
    let a = before.entries in
    let b = tried.entries in
    let own : of_partition place (commits_at place a) ≡ a = of_own place a in
    let behind_a : behind_all (state_next (old place)) a ≡ state_next (parts_in now place) =
    subst (λ (l : List Entry). behind_all (state_next (old place)) l ≡ state_next (parts_in now place)) own
    (run_behind flows count (commits_at place a) old (parts_in now) place before.made (subst (IsNumbered (state_next (old place))) (sym own) before.numbered)) in
    record {
      going = before.going;
      entries = a ++ b;
      made = ap (states_after flows count old) (commits_both place a b) ∙ put_then flows count old (parts_in now) (parts_in new) (commits_at place a) (commits_at place b) before.made tried.made;
      numbered = numbered_on (state_next (old place)) (state_next (parts_in now place)) a b behind_a before.numbered tried.numbered;
      come = λ done is. subst (λ (l : List Entry). HasCome l end) (append_assoc done a b) (tried.come (done ++ a) (come_on (done ++ a) course read_it reads.past reads.incarnation (before.come done is)));
      read = λ tells done is.
          let later = told_there tells in
          let read_is : IsCourse steps (done ++ a) read_it = subst (λ (s : List Step). ReadsAny s course (Ok read_it)) same (further later) (done ++ a) (before.read (told later) done is) in
          subst (λ (l : List Entry). IsCourse steps l end) (append_assoc done a b) (tried.read tells (done ++ a) read_is);
    }

-- ---- one of the partitions went on

module _ (old new : List PartState) (was : List Course) (place : ℕ) (none course next : Course) (low : place < length was) (inside : place < length old) (at : slice_get was place ≡ Some course) (others : (other : ℕ) → other ≢ place → parts_in new other ≡ parts_in old other) (flows : Flows)
    (before_it after : Type 0) (steps : List Step) (told : after → before_it) (goes : GoesUnrefused flows place after steps old new course next) where
  pub kept_placed : HavePlaced flows (length old) before_it steps (parts_in old) was → HavePlaced flows (length old) after steps (parts_in new) (now_at was place none next low)
  kept_placed before = λ going.
      let by = goes (going place next (next_there was place none next low)) in
      let before_going : NoneRefused was = λ other one is. elim (cases_eq other place) [
        | inl same ↦
            let here : slice_get was place ≡ Some one = subst (λ (o : ℕ). slice_get was o ≡ Some one) same is in
            let both : Some one ≡ Some course = sym here ∙ at in
            let one_is : one ≡ course = cc both in
            ap (λ (c : Course). is_refused c.comes) one_is ∙ by.going
        | inr apart ↦ going other one (others_there was place none next low other one apart is)
      ] in
      let made = before before_going in
      let more = commits_at place by.entries in
      let run = made.run ++ more in
      let mine : of_partition place run ≡ of_partition place made.run ++ by.entries = of_both place made.run more ∙ ap (λ (l : List Entry). of_partition place made.run ++ l) (of_own place by.entries) in
      let theirs : (other : ℕ) → other ≢ place → of_partition other run ≡ of_partition other made.run = λ other apart.
      of_both other made.run more ∙ ap (λ (l : List Entry). of_partition other made.run ++ l) (of_other place other by.entries (λ same. apart (sym same))) ∙ append-nil (of_partition other made.run) in
      record {
        run = run;
        below = below_both (length old) made.run more made.below (below_at (length old) place by.entries inside);
        made = put_then flows (length old) fresh (parts_in old) (parts_in new) made.run more made.made by.made;
        numbered = λ other. elim (cases_eq other place) [
          | inl same ↦
              let here : IsNumbered (state_next (fresh place)) (of_partition place made.run ++ by.entries) =
              numbered_on (state_next (fresh place)) (state_next (parts_in old place)) (of_partition place made.run) by.entries (run_behind flows (length old) made.run fresh (parts_in old) place made.made (made.numbered place)) (made.numbered place) by.numbered in
              subst (λ (o : ℕ). IsNumbered (state_next (fresh o)) (of_partition o run)) (sym same) (subst (IsNumbered (state_next (fresh place))) (sym mine) here)
          | inr apart ↦ subst (IsNumbered (state_next (fresh other))) (sym (theirs other apart)) (made.numbered other)
        ];
        each = λ other one is. elim (cases_eq other place) [
          | inl same ↦
              let here : slice_get (now_at was place none next low) place ≡ Some one = subst (λ (o : ℕ). slice_get (now_at was place none next low) o ≡ Some one) same is in
              let come : HasCome (of_partition place run) next = subst (λ (l : List Entry). HasCome l next) (sym mine) (by.come (of_partition place made.run) (made.each place course at)) in
              subst (λ (o : ℕ). HasCome (of_partition o run) one) (sym same) (subst (HasCome (of_partition place run)) (sym (next_here was place none next low one here)) come)
          | inr apart ↦ subst (λ (l : List Entry). HasCome l one) (sym (theirs other apart)) (made.each other one (others_stay was place none next low other one apart is))
        ];
        read = λ tells other one is. elim (cases_eq other place) [
          | inl same ↦
              let here : slice_get (now_at was place none next low) place ≡ Some one = subst (λ (o : ℕ). slice_get (now_at was place none next low) o ≡ Some one) same is in
              let course_is : IsCourse steps (of_partition place run) next = subst (λ (l : List Entry). IsCourse steps l next) (sym mine) (by.read tells (of_partition place made.run) (made.read (told tells) place course at)) in
              subst (λ (o : ℕ). IsCourse steps (of_partition o run) one) (sym same) (subst (IsCourse steps (of_partition place run)) (sym (next_here was place none next low one here)) course_is)
          | inr apart ↦ subst (λ (l : List Entry). IsCourse steps l one) (sym (theirs other apart)) (made.read (told tells) other one (others_stay was place none next low other one apart is))
        ];
      }

-- what is said of as many states as there are now is said of as many as there were, and of the files as they were
pub keeps_over : (flows : Flows) (many count : ℕ) (told tells after : Type 0) (mid old : List Step) (first now new : ℕ → Partition) (begun was courses : List Course) → many ≡ count → mid ≡ old
    → (HavePlaced flows count told old first begun → HavePlaced flows count tells old now was) → (HavePlaced flows many tells mid now was → HavePlaced flows many after mid new courses)
    → HavePlaced flows count told old first begun → HavePlaced flows count after old new courses
keeps_over flows many count told tells after mid old first now new begun was courses same same_files before keeps placed =
    let counted = subst (λ (n : ℕ). HavePlaced flows n tells mid now was → HavePlaced flows n after mid new courses) same keeps in
    subst (λ (s : List Step). HavePlaced flows count tells s now was → HavePlaced flows count after s new courses) same_files counted (before placed)

-- ---- all of them

pub none_placed : (flows : Flows) (count many digest : ℕ) (tells : Type 0) (steps : List Step) (parts : ℕ → Partition) (courses : List Course) → parts ≡ fresh → AllUnplaced courses → (tells → AllBegun many digest steps courses) → HavePlaced flows count tells steps parts courses
none_placed flows count many digest tells steps parts courses is unplaced begun = λ going. record {
  run = [];
  below = tt;
  made = ap (λ (f : ℕ → Partition). Some f) (sym is);
  numbered = λ partition. tt;
  each = unplaced;
  read = λ told place course at. (begun told place course at).course_is;
}

ended_going : (comes : Comes) → has_ended comes ≡ true → is_refused comes ≡ false
ended_going (End end) is = refl
ended_going (More reader) is = absurd (cc is)
ended_going (Waits entry reader) is = absurd (cc is)
ended_going (Refused entry reader) is = absurd (cc is)

none_refused : (courses : List Course) → EndsBelow (length courses) courses → NoneRefused courses
none_refused courses ended = λ place course at. ended_going course.comes (ended place course (slice_get_within courses place course at) at)

-- where all logs ended
pub were_placed : (flows : Flows) (count digest : ℕ) (tells : Type 0) (steps : List Step) (first : List Course) (opened : Opened) (courses : List Course) (parts : ℕ → Partition) → length first ≡ count → length courses ≡ length first → (tells → AllBegun count digest steps first)
    → (tells → AllRead steps (logs_of first) courses) → HavePlaced flows count tells steps parts courses → EndsBelow (length courses) courses → parts_in opened.states.items ≡ parts → AreEndsOf courses opened.lives.items → WerePlaced flows count digest tells (λ file. content_of file steps) opened
were_placed flows count digest tells steps first opened courses parts many same_many begun read placed ended states ends =
    let made = placed (none_refused courses ended) in
    record {
      run = made.run;
      below = made.below;
      made = made.made ∙ ap (λ (f : ℕ → Partition). Some f) (sym states);
      numbered = made.numbered;
      past = λ partition life at. let one = life_course courses opened.lives.items ends partition life at in (ends.each partition one.0 life one.1 at).past ∙ (made.each partition one.0 one.1).past;
      incarnation = λ partition life at. let one = life_course courses opened.lives.items ends partition life at in (ends.each partition one.0 life one.1 at).incarnation ∙ (made.each partition one.0 one.1).incarnation;
      theirs = λ told partition below.
          let one = course_at flows count digest steps first many (begun told) courses same_many (read told) partition below in
          entries_at flows count digest steps first many (begun told) courses same_many (read told) ended partition one.0 (of_partition partition made.run) one.1 (made.read told partition one.0 one.1);
    }
