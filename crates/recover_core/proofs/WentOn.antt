-- A partition goes on, entry after entry.
use Rattle.std.proofs.Common.{◌≡◌, ◌∙◌, ℕ, Bool, true, false, List, ◌++◌, length, Option, Result, Ok, Err, refl, sym, subst, arith}
use Rattle.site_model.specs.History.{Step}
use Rattle.commit_log.specs.declared.reader.FrameError.{FrameError}
use Rattle.commit_log.specs.declared.reader.OpenedLog.{OpenedLog}
use Rattle.dura_value.specs.Items.{Entry}
use Rattle.flow_syntax.specs.Syntax.{Flows}
use Rattle.dura_model.specs.Partition.{Partition}
use Rattle.part_steps.specs.declared.state.PartState.{PartState}
use Rattle.part_steps.specs.States.{AreStatesOfAll, parts_in}
use Rattle.recover_core.specs.Courses.{IsCourse, ReadsFurther, IsWhole, IsBrokenLog, ReadsCourse, FitsCourse, GoesOnFrom, GoesFitting, IsStill, IsChain, HasTaken, HasHalted, Tries, GoesFar}
use Rattle.recover_core.specs.declared.course.Course.{Course}
use Rattle.recover_core.proofs.Going.{InLoop, one_more, no_more, further_read}

-- ---- whatever the disk answered

pub fitting_yet : (place : ℕ) (states : List PartState) (course : Course) → AreStatesOfAll states → FitsCourse (parts_in states place) course → GoesFitting place states states course course false
fitting_yet place states course all fits = record { all = all; many = refl; others = λ other apart. refl; fits = fits; log = refl; no_more = omega arith; less = λ wrong. absurd (cc wrong) }

module _ (place : ℕ) (first now new : List PartState) (was course read_it : Course) (moved : Bool) (tried : Course × Bool) (so_far : GoesFitting place first now was course moved) (reads : GoesOnFrom (parts_in now place) course read_it) (tries : GoesFitting place now new read_it tried.0 tried.1) where
  pub fitting_more : tried.1 ≡ true → GoesFitting place first new was tried.0 true
  fitting_more placed =
      let before = so_far.no_more in let between = reads.less in let after = tries.less placed in
      record {
        all = tries.all;
        many = tries.many ∙ so_far.many;
        others = λ other apart. tries.others other apart ∙ so_far.others other apart;
        fits = tries.fits;
        log = tries.log ∙ reads.log ∙ so_far.log;
        no_more = omega (arith, before, between, after);
        less = λ moved_on. omega (arith, before, between, after);
      }

  pub fitting_end : GoesFitting place first new was tried.0 moved
  fitting_end =
      let before = so_far.no_more in let between = reads.less in let after = tries.no_more in
      record {
        all = tries.all;
        many = tries.many ∙ so_far.many;
        others = λ other apart. tries.others other apart ∙ so_far.others other apart;
        fits = tries.fits;
        log = tries.log ∙ reads.log ∙ so_far.log;
        no_more = omega (arith, before, between, after);
        less = λ moved_on. let ahead = so_far.less moved_on in omega (arith, ahead, between, after);
      }

-- ---- what was placed

-- what reading on answers of entries that were placed, and what trying does
abbrev pub ReadsAny : List Step → Course → Result Course FrameError → Type 0
ReadsAny steps course result = (done : List Entry) → IsCourse steps done course → ReadsCourse steps done course result

abbrev pub TriesAny : Flows → ℕ → List Step → (place : ℕ) → (course : Course) → (now new : List PartState) → Result (Course × Bool) FrameError → Type 0
TriesAny flows count steps place course now new result =
    (done : List Entry) → IsCourse steps done course → IsWhole steps course.log → IsChain flows count place done (parts_in now) → IsStill flows count (parts_in now place) course.comes
    → Tries flows count steps place done course.log (parts_in now) (parts_in new) result

-- entry after entry was read
pub loop_read : (steps here there : List Step) (done : List Entry) (course read_it end : Course) → here ≡ steps → there ≡ steps → ReadsFurther steps done course → ReadsAny here course (Ok read_it)
    → ((some : List Entry) → IsCourse there some read_it → ReadsFurther there some end) → ReadsFurther steps done end
loop_read steps here there done course read_it end same same_there so_far reads tries =
    let read_is : IsCourse steps (done ++ so_far.0) read_it = subst (λ (s : List Step). ReadsAny s course (Ok read_it)) same reads (done ++ so_far.0) so_far.1 in
    let on = subst (λ (s : List Step). (some : List Entry) → IsCourse s some read_it → ReadsFurther s some end) same_there tries (done ++ so_far.0) read_is in
    further_read steps done so_far.0 end on

taken_of : (flows : Flows) (count : ℕ) (steps : List Step) (place : ℕ) (done : List Entry) (log : Option OpenedLog) (now new : ℕ → Partition) (tried : Course × Bool) → tried.1 ≡ true → Tries flows count steps place done log now new (Ok tried)
    → HasTaken flows count steps place done now new tried.0
taken_of flows count steps place done log now new (course, true) is tries = tries
taken_of flows count steps place done log now new (course, false) is tries = absurd (cc is)

halted_of : (flows : Flows) (count : ℕ) (steps : List Step) (place : ℕ) (done : List Entry) (log : Option OpenedLog) (now new : ℕ → Partition) (tried : Course × Bool) → tried.1 ≡ false → Tries flows count steps place done log now new (Ok tried)
    → HasHalted flows count steps place done now new tried.0
halted_of flows count steps place done log now new (course, true) is tries = absurd (cc is)
halted_of flows count steps place done log now new (course, false) is tries = tries

pub broken_first : (steps : List Step) (log first : Option OpenedLog) (error : FrameError) → log ≡ first → IsBrokenLog steps log error → IsBrokenLog steps first error
broken_first steps log first error same broken = subst (λ (l : Option OpenedLog). IsBrokenLog steps l error) same broken

module _ (flows : Flows) (steps here there : List Step) (place : ℕ) (done : List Entry) (first now new : List PartState) (was course read_it : Course) (moved : Bool) (fitting : GoesFitting place first now was course moved) (so_far : InLoop flows (length first) steps place done (parts_in first) (parts_in now) course moved) (same : here ≡ steps) where
  pub read_broken : (error : FrameError) → ReadsAny here course (Err error) → IsBrokenLog steps was.log error
  read_broken error says = broken_first steps course.log was.log error fitting.log (subst (λ (s : List Step). ReadsAny s course (Err error)) same says (done ++ so_far.entries) so_far.course_is)

  module _ (reads : ReadsAny here course (Ok read_it)) (goes : GoesOnFrom (parts_in now place) course read_it) (still : IsStill flows (length first) (parts_in now place) read_it.comes) (whole : IsWhole steps was.log) (same_there : there ≡ steps) where
    read_course : IsCourse steps (done ++ so_far.entries) read_it
    read_course = subst (λ (s : List Step). ReadsAny s course (Ok read_it)) same reads (done ++ so_far.entries) so_far.course_is

    log_is : read_it.log ≡ was.log
    log_is = goes.log ∙ fitting.log

    tries_now : (result : Result (Course × Bool) FrameError) → TriesAny flows (length now) there place read_it now new result → Tries flows (length first) steps place (done ++ so_far.entries) read_it.log (parts_in now) (parts_in new) result
    tries_now result says =
        let counted : TriesAny flows (length first) there place read_it now new result = subst (λ (n : ℕ). TriesAny flows n there place read_it now new result) fitting.many says in
        subst (λ (s : List Step). TriesAny flows (length first) s place read_it now new result) same_there counted (done ++ so_far.entries) read_course (subst (IsWhole steps) (sym log_is) whole) so_far.chain still

    pub try_broken : (error : FrameError) → TriesAny flows (length now) there place read_it now new (Err error) → IsBrokenLog steps was.log error
    try_broken error says = broken_first steps read_it.log was.log error log_is (tries_now (Err error) says)

    pub entry_more : (tried : Course × Bool) → tried.1 ≡ true → TriesAny flows (length now) there place read_it now new (Ok tried) → InLoop flows (length first) steps place done (parts_in first) (parts_in new) tried.0 true
    entry_more tried placed says =
        one_more flows (length first) steps place done (parts_in first) (parts_in now) (parts_in new) course read_it tried.0 moved so_far read_course
        (taken_of flows (length first) steps place (done ++ so_far.entries) read_it.log (parts_in now) (parts_in new) tried placed (tries_now (Ok tried) says))

    pub none_more : (tried : Course × Bool) → tried.1 ≡ false → TriesAny flows (length now) there place read_it now new (Ok tried) → GoesFar flows (length first) steps place done (parts_in first) (parts_in new) tried.0 moved
    none_more tried placed says =
        no_more flows (length first) steps place done (parts_in first) (parts_in now) (parts_in new) course tried.0 moved so_far
        (halted_of flows (length first) steps place (done ++ so_far.entries) read_it.log (parts_in now) (parts_in new) tried placed (tries_now (Ok tried) says))
