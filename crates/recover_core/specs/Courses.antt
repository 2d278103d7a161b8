-- How far the log of a partition has come into its state.
use Rattle.std.specs.Prelude.{◌≡◌, ◌≢◌, ℕ, ◌+◌, ◌*◌, ◌≤◌, ◌<◌, List, [], ◌∷◌, ◌++◌, length, Bool, true, false, Option, Some, None, Result, Ok, Err}
use Rattle.site_model.specs.History.{Step}
use Rattle.commit_log.specs.declared.reader.FrameError.{FrameError}
use Rattle.commit_log.specs.declared.reader.FrameError.TheVariants as unread
use Rattle.commit_log.specs.declared.reader.OpenedLog.{OpenedLog}
use Rattle.dura_value.specs.Items.{Entry}
use Rattle.dura_value.specs.Limits.{number_limit}
use Rattle.log_items.specs.Entries.{incarnations_in}
use Rattle.log_items.specs.Plain.{entry_of}
use Rattle.log_items.specs.declared.frames.Entry as read
use Rattle.flow_syntax.specs.Syntax.{Flows}
use Rattle.dura_model.specs.Partition.{Partition, fresh, with_part}
use Rattle.dura_model.specs.Entries as alone
use Rattle.dura_model.specs.Entries.{entry_accepted, next_incarnation}
use Rattle.many_logs.specs.Placing.{commit_accepted, states_after, commits_at}
use Rattle.many_logs.specs.Labels.{state_next}
use Rattle.part_items.specs.Numbered.{behind, IsNumbered}
use Rattle.log_files.specs.Entries.{IsOpenedLog, Reads, EndsAs, whole_of, next_in, fuel_of}
use Rattle.part_steps.specs.declared.state.PartState.{PartState}
use Rattle.part_steps.specs.States.{AreStatesOfAll, parts_in}
use Rattle.recover_core.specs.declared.course.Comes.{Comes}
use Rattle.recover_core.specs.declared.course.Comes.TheVariants.{More, Waits, Refused, End}
use Rattle.recover_core.specs.declared.course.Course.{Course}

abbrev pub IsOpenedOr : List Step → Option OpenedLog → Type 0
IsOpenedOr steps None = Unit {0}
IsOpenedOr steps (Some log) = IsOpenedLog steps log

-- a log begins with its partition's first entry
abbrev pub IsFromFirst : Option OpenedLog → Type 0
IsFromFirst None = Unit {0}
IsFromFirst (Some log) = log.header.base ≡ 0

-- a log can be read to its end
abbrev pub IsWhole : List Step → Option OpenedLog → Type 0
IsWhole steps None = Unit {0}
IsWhole steps (Some log) = (whole : List Entry × ℕ) × (whole_of steps log ≡ Ok whole)

-- of a log these entries were placed, and this comes next
abbrev pub IsLog : List Step → (done : List Entry) → Option OpenedLog → Comes → Type 0
IsLog steps done None (End None) = done ≡ []
IsLog steps done (Some log) (More reader) = IsOpenedLog steps log × Reads steps log done reader
IsLog steps done (Some log) (Waits entry reader) = IsOpenedLog steps log × Reads steps log (done ++ entry_of entry ∷ []) reader
IsLog steps done (Some log) (Refused entry reader) = IsOpenedLog steps log × Reads steps log (done ++ entry_of entry ∷ []) reader
IsLog steps done (Some log) (End (Some end)) = EndsAs steps log done end
IsLog steps done log comes = ⊥

-- These entries of a partition's log were placed.
pub record IsCourse (steps : List Step) (done : List Entry) (course : Course) : Type 0 where
  pub past : course.past ≡ incarnations_in done
  pub incarnation : course.incarnation ≡ next_incarnation done
  pub log : IsLog steps done course.log course.comes

-- these and more were placed
abbrev pub ReadsFurther : List Step → (done : List Entry) → Course → Type 0
ReadsFurther steps done course = (more : List Entry) × IsCourse steps (done ++ more) course

-- a log can't be read
abbrev pub IsBrokenLog : List Step → Option OpenedLog → FrameError → Type 0
IsBrokenLog steps (Some log) (unread.Damaged offset) = whole_of steps log ≡ Err offset
IsBrokenLog steps None (unread.Damaged offset) = ⊥
IsBrokenLog steps log unread.SiteFault = Unit {0}
IsBrokenLog steps log unread.Memory = Unit {0}

-- the next entry was read
abbrev pub ReadsCourse : List Step → (done : List Entry) → (old : Course) → Result Course FrameError → Type 0
ReadsCourse steps done old (Ok new) = IsCourse steps done new
ReadsCourse steps done old (Err error) = IsBrokenLog steps old.log error

-- ---- whatever the disk answered

-- the state that the entries made has as many as were counted
pub record Counts (p : Partition) (course : Course) : Type 0 where
  pub counted : p.position ≡ length course.past
  pub younger : p.incarnation ≤ course.incarnation

-- the next entry stands where the state goes on
abbrev pub FitsNext : Partition → (incarnation : ℕ) → Comes → Type 0
FitsNext p incarnation (More reader) = (p.position ≡ (next_in reader).position) × (p.incarnation ≤ (next_in reader).incarnation)
FitsNext p incarnation (Waits entry reader) =
    (p.position ≡ entry.position) × (p.incarnation ≤ entry.incarnation) × (entry.position < number_limit) × (entry.incarnation < number_limit) × (next_in reader ≡ behind (entry_of entry))
FitsNext p incarnation (Refused entry reader) = Unit {0}
FitsNext p incarnation (End end) = Unit {0}

abbrev pub is_refused : Comes → Bool
is_refused (Refused entry reader) = true
is_refused other = false

pub record FitsCourse (p : Partition) (course : Course) : Type 0 where
  pub base : IsFromFirst course.log
  pub counts : is_refused course.comes ≡ false → Counts p course
  pub next : FitsNext p course.incarnation course.comes

-- an entry stands where a state goes on
abbrev pub StandsNext : Partition → read.Entry → Type 0
StandsNext p entry = (p.position ≡ entry.position) × (p.incarnation ≤ entry.incarnation) × (entry.position < number_limit)

-- how far it may have to go at most
abbrev pub to_go : Comes → ℕ
to_go (More reader) = 2 * fuel_of reader
to_go (Waits entry reader) = 2 * fuel_of reader + 1
to_go (Refused entry reader) = 0
to_go (End end) = 0

-- what comes next was read
abbrev pub IsRead : Comes → Type 0
IsRead (More reader) = ⊥
IsRead other = Unit {0}

pub record GoesOnFrom (p : Partition) (old new : Course) : Type 0 where
  pub fits : FitsCourse p new
  pub read : IsRead new.comes
  pub log : new.log ≡ old.log
  pub less : to_go new.comes ≤ to_go old.comes
  pub going : is_refused new.comes ≡ false → is_refused old.comes ≡ false
  pub past : new.past ≡ old.past
  pub incarnation : new.incarnation ≡ old.incarnation

-- A course has come past these entries: their incarnations are kept, and the one that goes on behind them.
pub record HasCome (entries : List Entry) (course : Course) : Type 0 where
  pub past : course.past ≡ incarnations_in entries
  pub incarnation : course.incarnation ≡ next_incarnation entries

-- A partition went on by entries that were accepted one after another; each stands where its log goes on, and is of no earlier incarnation.
pub record GoesBy (flows : Flows) (count place : ℕ) (tells : Type 0) (steps : List Step) (old new : ℕ → Partition) (was course : Course) : Type 0 where
  pub going : is_refused was.comes ≡ false
  pub entries : List Entry
  pub made : states_after flows count old (commits_at place entries) ≡ Some new
  pub numbered : IsNumbered (state_next (old place)) entries
  pub come : (done : List Entry) → HasCome done was → HasCome (done ++ entries) course
  -- where the site tells, they are the next ones of its log
  pub read : tells → (done : List Entry) → IsCourse steps done was → IsCourse steps (done ++ entries) course

-- so it did, unless an entry was refused: then the state that is made again may be another
abbrev pub GoesUnrefused : Flows → (place : ℕ) → (tells : Type 0) → List Step → (old new : List PartState) → (was course : Course) → Type 0
GoesUnrefused flows place tells steps old new was course = is_refused course.comes ≡ false → GoesBy flows (length old) place tells steps (parts_in old) (parts_in new) was course

-- ---- what the entries make of the states

-- an entry that was refused never is accepted by its partition, though it stands where the state goes on
abbrev pub IsStill : Flows → (count : ℕ) → Partition → Comes → Type 0
IsStill flows count p (Refused entry reader) = (entry_accepted flows count p (entry_of entry) ≡ None) × StandsNext p entry
IsStill flows count p other = Unit {0}

-- nothing of the log can be placed now
abbrev pub Halts : Flows → (count : ℕ) → (ℕ → Partition) → (partition : ℕ) → Comes → Type 0
Halts flows count parts partition (More reader) = ⊥
Halts flows count parts partition (Waits entry reader) = commit_accepted flows count parts partition (entry_of entry) ≡ None
Halts flows count parts partition (Refused entry reader) = entry_accepted flows count (parts partition) (entry_of entry) ≡ None
Halts flows count parts partition (End end) = Unit {0}

-- the partition's own entries made its state
abbrev pub IsChain : Flows → (count partition : ℕ) → List Entry → (ℕ → Partition) → Type 0
IsChain flows count partition done parts = alone.placed flows count (fresh partition) done ≡ Ok (parts partition)

-- The next entry was placed.
pub record HasTaken (flows : Flows) (count : ℕ) (steps : List Step) (partition : ℕ) (done : List Entry) (old new : ℕ → Partition) (course : Course) : Type 0 where
  pub entry : Entry
  pub next : Partition
  pub accepted : commit_accepted flows count old partition entry ≡ Some next
  pub states : new ≡ with_part old partition next
  pub course_is : IsCourse steps (done ++ entry ∷ []) course
  pub still : IsStill flows count next course.comes

-- None was, and none can be.
pub record HasHalted (flows : Flows) (count : ℕ) (steps : List Step) (partition : ℕ) (done : List Entry) (old new : ℕ → Partition) (course : Course) : Type 0 where
  pub states : new ≡ old
  pub course_is : IsCourse steps done course
  pub still : IsStill flows count (old partition) course.comes
  pub halts : Halts flows count old partition course.comes

abbrev pub Tries : Flows → (count : ℕ) → List Step → (partition : ℕ) → (done : List Entry) → (log : Option OpenedLog) → (old new : ℕ → Partition) → Result (Course × Bool) FrameError → Type 0
Tries flows count steps partition done log old new (Ok (course, true)) = HasTaken flows count steps partition done old new course
Tries flows count steps partition done log old new (Ok (course, false)) = HasHalted flows count steps partition done old new course
Tries flows count steps partition done log old new (Err error) = IsBrokenLog steps log error

-- Entries were placed one after another, until none can be.
pub record GoesFar (flows : Flows) (count : ℕ) (steps : List Step) (partition : ℕ) (done : List Entry) (old new : ℕ → Partition) (course : Course) (moved : Bool) : Type 0 where
  pub entries : List Entry
  pub made : states_after flows count old (commits_at partition entries) ≡ Some new
  pub course_is : IsCourse steps (done ++ entries) course
  pub still : IsStill flows count (new partition) course.comes
  pub halts : Halts flows count new partition course.comes
  pub none : moved ≡ false → entries ≡ []

abbrev pub GoesOn : Flows → (count : ℕ) → List Step → (partition : ℕ) → (done : List Entry) → (log : Option OpenedLog) → (old new : ℕ → Partition) → Result (Course × Bool) FrameError → Type 0
GoesOn flows count steps partition done log old new (Ok (course, moved)) = GoesFar flows count steps partition done old new course moved
GoesOn flows count steps partition done log old new (Err error) = IsBrokenLog steps log error

-- ---- one state among all

-- An entry was placed on a partition's state, or it isn't accepted; the states of the others are as they were.
pub record PlacesAt (flows : Flows) (place : ℕ) (entry : Entry) (old new : List PartState) (placed : Bool) : Type 0 where
  pub all : AreStatesOfAll new
  pub many : length new ≡ length old
  pub others : (other : ℕ) → other ≢ place → parts_in new other ≡ parts_in old other
  pub made : placed ≡ true
      → (entry_accepted flows (length old) (parts_in old place) entry ≡ Some (parts_in new place))
      × ((parts_in new place).position ≡ (parts_in old place).position + 1) × ((parts_in new place).incarnation ≡ entry.incarnation)

-- where it wasn't, it isn't accepted, and all states are as they were
abbrev pub SaysRefused : Flows → List Step → OpenedLog → (place : ℕ) → Entry → (old new : List PartState) → Result Bool FrameError → Type 0
SaysRefused flows steps log place entry old new (Ok true) = Unit {0}
SaysRefused flows steps log place entry old new (Ok false) = (entry_accepted flows (length old) (parts_in old place) entry ≡ None) × (parts_in new ≡ parts_in old)
SaysRefused flows steps log place entry old new (Err error) = IsBrokenLog steps (Some log) error

-- A partition went on by an entry, or didn't, whatever the disk answered; it has less to go where it did.
pub record GoesFitting (place : ℕ) (old new : List PartState) (was course : Course) (moved : Bool) : Type 0 where
  pub all : AreStatesOfAll new
  pub many : length new ≡ length old
  pub others : (other : ℕ) → other ≢ place → parts_in new other ≡ parts_in old other
  pub fits : FitsCourse (parts_in new place) course
  pub log : course.log ≡ was.log
  pub no_more : to_go course.comes ≤ to_go was.comes
  pub less : moved ≡ true → to_go course.comes < to_go was.comes
