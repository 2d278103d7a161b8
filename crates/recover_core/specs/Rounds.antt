-- The logs of all partitions on their way into the states.
use Rattle.std.specs.Prelude.{◌≡◌, ◌≢◌, ℕ, ◌+◌, ◌≤◌, ◌<◌, List, [], ◌∷◌, length, Bool, true, false, Option, Some, Result, Ok, Err}
use Rattle.std.specs.List.{slice_get}
use Rattle.dura_value.specs.Items.{Entry}
use Rattle.site_model.specs.History.{Step}
use Rattle.commit_log.specs.declared.reader.FrameError.{FrameError}
use Rattle.commit_log.specs.declared.reader.FrameError.TheVariants as unread
use Rattle.commit_log.specs.declared.reader.OpenedLog.{OpenedLog}
use Rattle.flow_syntax.specs.Syntax.{Flows}
use Rattle.dura_model.specs.Partition.{Partition, fresh}
use Rattle.many_logs.specs.Labels.{AreNumbered}
use Rattle.many_logs.specs.Placing.{Commit, AllBelow, states_after, of_partition}
use Rattle.part_steps.specs.declared.state.PartState.{PartState}
use Rattle.part_steps.specs.States.{AreStatesOfAll, parts_in}
use Rattle.recover_core.specs.Courses.{IsCourse, IsWhole, IsStill, Halts, FitsCourse, HasCome, is_refused, to_go}
use Rattle.recover_core.specs.declared.course.Course.{Course}
use Rattle.recover_core.specs.declared.error.RecoverError.{RecoverError}
use Rattle.recover_core.specs.declared.error.RecoverError.TheVariants as errors

-- a fault in a file
abbrev pub error_in : (file : ℕ) → FrameError → RecoverError
error_in file (unread.Damaged offset) = errors.Damaged file offset
error_in file unread.SiteFault = errors.SiteFault
error_in file unread.Memory = errors.Memory

-- There is a course for each state, and each goes on from its partition's.
pub record AreReady (states : List PartState) (courses : List Course) : Type 0 where
  pub all : AreStatesOfAll states
  pub many : length courses ≡ length states
  pub each : (place : ℕ) (course : Course) → slice_get courses place ≡ Some course → FitsCourse (parts_in states place) course

abbrev pub all_to_go : List Course → ℕ
all_to_go [] = 0
all_to_go (course ∷ courses) = to_go course.comes + all_to_go courses

-- they have no more to go than before, and less where one moved
pub record HasLess (old new : List Course) (moved : Bool) : Type 0 where
  pub no_more : all_to_go new ≤ all_to_go old
  pub less : moved ≡ true → all_to_go new < all_to_go old

-- each course is of its partition's log, whose entries were read and placed so far
abbrev pub AllRead : List Step → (logs : ℕ → Option OpenedLog) → List Course → Type 0
AllRead steps logs courses = (place : ℕ) (course : Course) → slice_get courses place ≡ Some course → (course.log ≡ logs place) × ((done : List Entry) × IsCourse steps done course)

-- all logs can be read to their ends
abbrev pub AllWhole : List Step → (logs : ℕ → Option OpenedLog) → Type 0
AllWhole steps logs = (place : ℕ) → IsWhole steps (logs place)

-- it lies with the disk or with memory
abbrev pub IsOutside : RecoverError → Type 0
IsOutside errors.SiteFault = Unit {0}
IsOutside errors.Memory = Unit {0}
IsOutside other = ⊥

-- What was placed of one partition's log, in an order of all.
pub record IsOfRun (flows : Flows) (count : ℕ) (steps : List Step) (parts : ℕ → Partition) (run : List Commit) (place : ℕ) (course : Course) : Type 0 where
  pub course_is : IsCourse steps (of_partition place run) course
  pub still : IsStill flows count (parts place) course.comes

-- The entries that were placed were accepted in some order, and made these states.
pub record ArePlaced (flows : Flows) (count : ℕ) (steps : List Step) (parts : ℕ → Partition) (courses : List Course) : Type 0 where
  pub run : List Commit
  pub below : AllBelow count run
  pub made : states_after flows count fresh run ≡ Some parts
  pub each : (place : ℕ) (course : Course) → slice_get courses place ≡ Some course → IsOfRun flows count steps parts run place course

-- no entry was refused
abbrev pub NoneRefused : List Course → Type 0
NoneRefused courses = (place : ℕ) (course : Course) → slice_get courses place ≡ Some course → is_refused course.comes ≡ false

-- Entries were placed in an order and made these states; each stands where its partition's log goes on, and the courses have come past them.
pub record AreMade (flows : Flows) (count : ℕ) (tells : Type 0) (steps : List Step) (parts : ℕ → Partition) (courses : List Course) : Type 0 where
  pub run : List Commit
  pub below : AllBelow count run
  pub made : states_after flows count fresh run ≡ Some parts
  pub numbered : AreNumbered fresh run
  pub each : (place : ℕ) (course : Course) → slice_get courses place ≡ Some course → HasCome (of_partition place run) course
  -- where the site tells, they are those that were read of the logs
  pub read : tells → (place : ℕ) (course : Course) → slice_get courses place ≡ Some course → IsCourse steps (of_partition place run) course

-- so it is whatever the disk answered, unless an entry was refused
abbrev pub HavePlaced : Flows → (count : ℕ) → (tells : Type 0) → List Step → (ℕ → Partition) → List Course → Type 0
HavePlaced flows count tells steps parts courses = NoneRefused courses → AreMade flows count tells steps parts courses

-- no partition can go on
abbrev pub AllHalt : Flows → (count : ℕ) → (ℕ → Partition) → List Course → Type 0
AllHalt flows count parts courses = (place : ℕ) (course : Course) → slice_get courses place ≡ Some course → Halts flows count parts place course.comes

-- One partition went on, the others stayed; where it didn't go on all states are as they were.
pub record HasTurned (flows : Flows) (count : ℕ) (steps : List Step) (place : ℕ) (old new : ℕ → Partition) (was courses : List Course) (moved : Bool) : Type 0 where
  pub placed : ArePlaced flows count steps new courses
  pub halts : (course : Course) → slice_get courses place ≡ Some course → Halts flows count new place course.comes
  pub others : (other : ℕ) (course : Course) → other ≢ place → slice_get courses other ≡ Some course → slice_get was other ≡ Some course
  pub stays : moved ≡ false → new ≡ old

-- All partitions went on, and where none did none can.
pub record HasGoneRound (flows : Flows) (count : ℕ) (steps : List Step) (parts : ℕ → Partition) (courses : List Course) (moved : Bool) : Type 0 where
  pub placed : ArePlaced flows count steps parts courses
  pub halt : moved ≡ false → AllHalt flows count parts courses

-- All went on until none can.
pub record HasPlacedAll (flows : Flows) (count : ℕ) (steps : List Step) (parts : ℕ → Partition) (courses : List Course) : Type 0 where
  pub placed : ArePlaced flows count steps parts courses
  pub halt : AllHalt flows count parts courses

-- what is answered where all logs can be read to their ends
abbrev pub Turns : Flows → (count : ℕ) → List Step → (place : ℕ) → (old new : ℕ → Partition) → (was courses : List Course) → Result Bool RecoverError → Type 0
Turns flows count steps place old new was courses (Ok moved) = HasTurned flows count steps place old new was courses moved
Turns flows count steps place old new was courses (Err error) = IsOutside error

abbrev pub GoesRound : Flows → (count : ℕ) → List Step → (ℕ → Partition) → List Course → Result Bool RecoverError → Type 0
GoesRound flows count steps parts courses (Ok moved) = HasGoneRound flows count steps parts courses moved
GoesRound flows count steps parts courses (Err error) = IsOutside error

abbrev pub PlacesAll : {X : Type 0} → Flows → (count : ℕ) → List Step → (ℕ → Partition) → List Course → Result X RecoverError → Type 0
PlacesAll flows count steps parts courses (Ok x) = HasPlacedAll flows count steps parts courses
PlacesAll flows count steps parts courses (Err error) = IsOutside error
