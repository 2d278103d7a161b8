-- Where the logs of all partitions ended.
use Rattle.std.specs.Prelude.{◌≡◌, ℕ, ◌<◌, List, length, Bool, true, false, Option, Some, None}
use Rattle.std.specs.List.{slice_get}
use Rattle.recover_core.specs.declared.course.Comes.{Comes}
use Rattle.recover_core.specs.declared.course.Comes.TheVariants.{End}
use Rattle.recover_core.specs.declared.course.Course.{Course}
use Rattle.recover_core.specs.declared.ending.Life.{Life}

-- a log has nothing left
abbrev pub has_ended : Comes → Bool
has_ended (End end) = true
has_ended other = false

-- in each of these places it has ended
abbrev pub EndsBelow : (most : ℕ) → List Course → Type 0
EndsBelow most courses = (place : ℕ) (course : Course) → place < most → slice_get courses place ≡ Some course → has_ended course.comes ≡ true

-- the first partition whose log has something left, if there is one
abbrev pub IsFirstLeft : List Course → Option ℕ → Type 0
IsFirstLeft courses None = EndsBelow (length courses) courses
IsFirstLeft courses (Some place) = (place < length courses) × EndsBelow place courses × ((course : Course) → slice_get courses place ≡ Some course → has_ended course.comes ≡ false)

-- What is kept of a log that ended.
pub record IsEndOf (course : Course) (life : Life) : Type 0 where
  pub ended : course.comes ≡ End life.log
  pub past : life.past ≡ course.past
  pub incarnation : life.incarnation ≡ course.incarnation

-- and of all logs
pub record AreEndsOf (courses : List Course) (lives : List Life) : Type 0 where
  pub many : length lives ≡ length courses
  pub each : (place : ℕ) (course : Course) (life : Life) → slice_get courses place ≡ Some course → slice_get lives place ≡ Some life → IsEndOf course life
