-- How things stand at each moment of a call.
use Rattle.std.specs.Prelude.{◌≡◌, ◌⊎◌, ℕ, ◌<◌, ◌≤◌, List, [], ◌∷◌, ◌++◌, length}
use Rattle.site_model.specs.History.{Change, wrote, synced, Step, said, changes_of, reads, tape, back_to, Leaves}
use Rattle.dura_value.specs.Items.{Entry}
use Rattle.part_items.specs.Kept.{keeps, kept_in}
use Rattle.hub_store.specs.Origin.{Log, Origin, IsNoLog}
use Rattle.hub_store.specs.Trail.{Settled, Said, of_part, settled_at, settling}

-- a log file keeps the entries that it had, and then these
abbrev pub LogKeeps : Log → List Entry → List ℕ → Type 0
LogKeeps log entries image = (gate : ℕ) × (kept_in log.header.partition image ≡ keeps log.header (log.entries ++ entries) gate)

-- what changed before the syncs that came last
abbrev pub before_syncs : List Change → List Change
before_syncs [] = []
before_syncs (synced ∷ changes) = before_syncs changes
before_syncs (wrote at size bytes ∷ changes) = wrote at size bytes ∷ changes

-- The last write of a log's file, with nothing but syncs behind it, was of one byte: of the gate up to which the file kept just the
-- entries that the log had and these.
pub record WroteGate (log : Log) (settled : List Entry) (changes : List Change) : Type 0 where
  pub gate : ℕ
  pub bytes : List ℕ
  pub before : List Change
  pub last : before_syncs changes ≡ wrote gate 1 bytes ∷ before
  pub kept : kept_in log.header.partition (reads before) ≡ keeps log.header (log.entries ++ settled) gate

-- the last thing that happened is that a byte was said
abbrev pub IsSpeaking : List Step → Type 0
IsSpeaking steps = (byte : ℕ) × (before : List Step) × (steps ≡ said byte ∷ before)

abbrev pub IsPrefix : List ℕ → List ℕ → Type 0
IsPrefix front whole = (rest : List ℕ) × (whole ≡ front ++ rest)

module _ (MayFollow : List Settled → List Said → ℕ → List Entry → Type 0) (MaySay : List Settled → List Said → Said → List ℕ → Type 0) where
  -- This was settled and these requests were answered by these lines, one after another: each frame might follow, and each line
  -- might be said, once what came before it was settled and said.
  pub data SaidSoFar : List Settled → List Said → List ℕ → Type 0 where
    silent : SaidSoFar [] [] []
    settles : {trail : List Settled} {told : List Said} {lines : List ℕ} → SaidSoFar trail told lines → (partition at : ℕ) (going : List Entry) → MayFollow trail told partition going → SaidSoFar (trail ++ settling partition at going) told lines
    says : {trail : List Settled} {told : List Said} {lines : List ℕ} → SaidSoFar trail told lines → (one : Said) (line : List ℕ) → MaySay trail told one line → SaidSoFar trail (told ++ one ∷ []) (lines ++ line)

  -- a front of a line that may be said, while it is being said or after that failed
  pub record SaysNext (trail : List Settled) (told : List Said) (steps : List Step) (part : List ℕ) : Type 0 where
    pub speaking : IsSpeaking steps
    pub one : Said
    pub line : List ℕ
    pub may : MaySay trail told one line
    pub front : IsPrefix part line

  -- one frame more than what is settled, which may follow it, and whose gate was just written
  pub record KeepsNext (log : Log) (partition : ℕ) (trail : List Settled) (told : List Said) (changes : List Change) (image : List ℕ) : Type 0 where
    pub going : List Entry
    pub follows : MayFollow trail told partition going
    pub gate : WroteGate log (of_part partition trail) changes
    pub keeps : LogKeeps log (of_part partition trail ++ going) image

  -- what a crash leaves of a partition's log: the entries that it had and those settled, or one frame more
  abbrev pub LeavesLog : Log → ℕ → List Settled → List Said → List Change → List ℕ → Type 0
  LeavesLog log partition trail told changes image = LogKeeps log (of_part partition trail) image ⊎ KeepsNext log partition trail told changes image

  -- Once this is settled and said: what stands on the tape are whole lines and then this part of one, a crash leaves of each log
  -- what it may, and nothing happened to any other file.
  pub record StandsWith (o : Origin) (steps : List Step) (trail : List Settled) (told : List Said) (part : List ℕ) : Type 0 where
    pub lines : List ℕ
    pub rightly : SaidSoFar trail told lines
    pub spoken : tape steps ≡ tape o.steps ++ lines ++ part
    pub images : (partition : ℕ) → partition < o.count → (image : List ℕ) → Leaves (changes_of (o.logs partition).file steps) image
        → LeavesLog (o.logs partition) partition trail told (changes_of (o.logs partition).file steps) image
    pub others : (file : ℕ) → IsNoLog o file → changes_of file steps ≡ changes_of file o.steps

  -- Once this is settled it stands so with something that was said, and no more than a part of one further line.
  pub record StoreStands (o : Origin) (steps : List Step) (trail : List Settled) : Type 0 where
    pub told : List Said
    pub part : List ℕ
    pub stands : StandsWith o steps trail told part
    pub speaking : (part ≡ []) ⊎ SaysNext trail told steps part

  -- at each moment from the beginning to now, with what is settled by then
  abbrev pub AtEveryMoment : Origin → List Step → List Settled → Type 0
  AtEveryMoment o now trail = (moment : ℕ) → length o.steps ≤ moment → moment ≤ length now → StoreStands o (back_to moment now) (settled_at moment trail)
