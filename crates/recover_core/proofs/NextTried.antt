-- The next entry of a partition is tried.
use Rattle.std.proofs.Common.{◌≡◌, ◌∙◌, ℕ, ◌+◌, true, false, List, [], ◌∷◌, ◌++◌, length, Option, Some, Ok, refl, sym, ap, subst}
use Rattle.site_model.specs.History.{Step}
use Rattle.commit_log.specs.declared.reader.FrameError.{FrameError}
use Rattle.commit_log.specs.declared.reader.OpenedLog.{OpenedLog}
use Rattle.dura_value.specs.Items.{Entry, Item}
use Rattle.log_items.specs.Plain.{entry_of}
use Rattle.log_items.specs.declared.frames.Entry as read
use Rattle.flow_syntax.specs.Syntax.{Flows}
use Rattle.dura_model.specs.Partition.{Partition}
use Rattle.many_logs.specs.Placing.{are_ready}
use Rattle.log_files.specs.Entries.{IsOpenedLog}
use Rattle.log_files.specs.declared.reader.EntryReader.{EntryReader}
use Rattle.part_steps.specs.declared.state.PartState.{PartState}
use Rattle.part_steps.specs.States.{parts_in}
use Rattle.recover_core.specs.Courses.{IsCourse, IsWhole, IsBrokenLog, FitsCourse, IsChain, PlacesAt, SaysRefused, HasTaken, HasHalted}
use Rattle.recover_core.specs.Restored.{IsFront}
use Rattle.recover_core.specs.declared.course.Comes.{Comes}
use Rattle.recover_core.specs.declared.course.Comes.TheVariants.{More, Waits, Refused}
use Rattle.recover_core.specs.declared.course.Course.{Course}
use Rattle.recover_core.proofs.Going.{course_of, course_taken, course_refused, ready_accepted, front_of}
use Rattle.recover_core.proofs.States.{one_changed}

-- the next entry waits, and the log behind it
module _ (flows : Flows) (steps : List Step) (place : ℕ) (done : List Entry) (old new : List PartState) (course : Course) (entry : read.Entry) (behind_it : EntryReader) (waits : course.comes ≡ Waits entry behind_it) where
  course_waits : IsCourse steps done course → IsCourse steps done (course_of course.log (Waits entry behind_it) course.past course.incarnation)
  course_waits is = subst (λ (comes : Comes). IsCourse steps done (course_of course.log comes course.past course.incarnation)) waits is

  fits_waits : (p : Partition) → FitsCourse p course → FitsCourse p (course_of course.log (Waits entry behind_it) course.past course.incarnation)
  fits_waits p fits = subst (λ (comes : Comes). FitsCourse p (course_of course.log comes course.past course.incarnation)) waits fits

  module _ (log : OpenedLog) (opened : course.log ≡ Some log) (is : IsCourse steps done course) where
    opened_waits : IsCourse steps done (course_of (Some log) (Waits entry behind_it) course.past course.incarnation)
    opened_waits = subst (λ (l : Option OpenedLog). IsCourse steps done (course_of l (Waits entry behind_it) course.past course.incarnation)) opened (course_waits is)

    pub opened_is : IsOpenedLog steps log
    opened_is = opened_waits.log.0

    pub front_is : FitsCourse (parts_in old place) course → IsChain flows (length old) place done (parts_in old) → IsWhole steps course.log → IsFront flows steps log (length old) place entry.position done (parts_in old place)
    front_is fits chain whole =
        let fits_it = subst (λ (l : Option OpenedLog). FitsCourse (parts_in old place) (course_of l (Waits entry behind_it) course.past course.incarnation)) opened (fits_waits (parts_in old place) fits) in
        front_of flows steps log (length old) place done (parts_in old place) entry behind_it course.past course.incarnation opened_waits fits_it chain (subst (IsWhole steps) opened whole)

    pub broken_is : (error : FrameError) → IsBrokenLog steps (Some log) error → IsBrokenLog steps course.log error
    broken_is error broken = subst (λ (l : Option OpenedLog). IsBrokenLog steps l error) (sym opened) broken

    pub has_taken : (items : List Item) → items ≡ (entry_of entry).items → are_ready (parts_in old) place items ≡ true → PlacesAt flows place (entry_of entry) old new true → HasTaken flows (length old) steps place done (parts_in old) (parts_in new) (course_of (Some log) (More behind_it) (course.past ++ entry.incarnation ∷ []) (entry.incarnation + 1))
    has_taken items same ready places = record {
      entry = entry_of entry;
      next = parts_in new place;
      accepted = ready_accepted flows (length old) (parts_in old) place (entry_of entry) (Some (parts_in new place)) (ap (are_ready (parts_in old) place) (sym same) ∙ ready) (places.made refl).0;
      states = one_changed (parts_in old) (parts_in new) place (parts_in new place) places.others refl;
      course_is = course_taken steps done (Some log) entry behind_it course.past course.incarnation opened_waits;
      still = tt;
    }

    pub has_refused : SaysRefused flows steps log place (entry_of entry) old new (Ok false) → FitsCourse (parts_in old place) course
        → HasHalted flows (length old) steps place done (parts_in old) (parts_in new) (course_of (Some log) (Refused entry behind_it) course.past course.incarnation)
    has_refused says fits =
        let next = (fits_waits (parts_in old place) fits).next in
        record {
          states = says.1;
          course_is = course_refused steps done (Some log) entry behind_it course.past course.incarnation opened_waits;
          still = (says.0, (next.0, next.1, next.2));
          halts = says.0;
        }
