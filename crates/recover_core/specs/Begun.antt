-- What recovery begins with.
use Rattle.std.specs.Prelude.{◌≡◌, ℕ, List, [], false, Some}
use Rattle.std.specs.List.{slice_get}
use Rattle.site_model.specs.History.{Step}
use Rattle.part_items.specs.Logs.{Asked}
use Rattle.dura_model.specs.Partition.{fresh}
use Rattle.log_files.specs.Checked.{asked_for}
use Rattle.log_files.specs.Fitting.{IsChosen}
use Rattle.recover_core.specs.Courses.{IsCourse, FitsCourse, HasCome, is_refused}
use Rattle.recover_core.specs.declared.course.Course.{Course}

-- Nothing was placed of the log that a partition has by the fronts of its files.
pub record IsBegun (asked : Asked) (steps : List Step) (course : Course) : Type 0 where
  pub chosen : IsChosen asked steps course.log
  pub course_is : IsCourse steps [] course
  pub going : is_refused course.comes ≡ false

abbrev pub AllBegun : (count digest : ℕ) → List Step → List Course → Type 0
AllBegun count digest steps courses = (place : ℕ) (course : Course) → slice_get courses place ≡ Some course → IsBegun (asked_for count digest place) steps course

-- each goes on from the state in which nothing happened
abbrev pub AllFromFresh : List Course → Type 0
AllFromFresh courses = (place : ℕ) (course : Course) → slice_get courses place ≡ Some course → FitsCourse (fresh place) course

-- nothing was placed of any
abbrev pub AllUnplaced : List Course → Type 0
AllUnplaced courses = (place : ℕ) (course : Course) → slice_get courses place ≡ Some course → HasCome [] course
