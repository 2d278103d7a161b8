-- What has happened outside so far, the newest step first, and what follows from it.
use Rattle.std.specs.Prelude.{◌≡◌, Bool, true, ◌&&◌, nat_le, ℕ, ◌+◌, ◌-◌, ◌≤◌, min, max, ◌==◌, if◌then◌else◌, List, [], ◌∷◌, ◌++◌, length, take, drop}

-- what happened to one file
pub data Change : Type 0 where
  -- from this offset so many bytes were open to a crash, and a read then gives these bytes there
  wrote : (at size : ℕ) → (bytes : List ℕ) → Change
  -- what a read gives was made safe
  synced : Change

-- one step of the outside
pub data Step : Type 0 where
  -- a change of the file with this number
  on : (file : ℕ) → (change : Change) → Step
  -- one byte said on the tape
  said : (byte : ℕ) → Step

-- the changes of one file
abbrev pub changes_of : ℕ → List Step → List Change
changes_of file [] = []
changes_of file (on other change ∷ steps) = if file == other then change ∷ changes_of file steps else changes_of file steps
changes_of file (said byte ∷ steps) = changes_of file steps

-- old with these bytes at this offset
abbrev pub put : ℕ → List ℕ → List ℕ → List ℕ
put at bytes old = take at old ++ bytes ++ drop (at + length bytes) old

-- what a read gives
abbrev pub reads : List Change → List ℕ
reads [] = []
reads (wrote at size bytes ∷ changes) = put at bytes (reads changes)
reads (synced ∷ changes) = reads changes

abbrev pub content_of : ℕ → List Step → List ℕ
content_of file steps = reads (changes_of file steps)

-- What a crash may make of a file whose range of this size was written and not synced: any bytes in the range and
-- past the old end, any length between the old and the new. Before the range and behind it the old bytes stand.
pub record Torn (at size : ℕ) (old new : List ℕ) : Type 0 where
  pub before : take (min at (length old)) new ≡ take at old
  pub behind : drop (at + size) (take (length old) new) ≡ drop (at + size) old
  pub no_shorter : length old ≤ length new
  pub no_longer : length new ≤ max (length old) (at + size)

-- the crash images of one file
abbrev pub Leaves : List Change → List ℕ → Type 0
Leaves [] image = image ≡ []
Leaves (wrote at size bytes ∷ changes) image = (before : List ℕ) × Leaves changes before × Torn at size before image
Leaves (synced ∷ changes) image = image ≡ reads changes

-- A crash image of all files: of each file one of its own, at the same moment.
pub record IsImage (steps : List Step) (files : ℕ → List ℕ) : Type 0 where
  pub each : (file : ℕ) → Leaves (changes_of file steps) (files file)

-- a crash leaves what a read gives, and nothing else
abbrev pub IsKept : List Change → Type 0
IsKept changes = (image : List ℕ) → Leaves changes image → image ≡ reads changes

-- each write began inside its file or at its end
abbrev pub writes_inside : List Change → Bool
writes_inside [] = true
writes_inside (wrote at size bytes ∷ changes) = nat_le at (length (reads changes)) && nat_le (length bytes) size && writes_inside changes
writes_inside (synced ∷ changes) = writes_inside changes

-- and so did each write of each file
abbrev pub AllInside : List Step → Type 0
AllInside steps = (file : ℕ) → writes_inside (changes_of file steps) ≡ true

-- what has been said, the oldest byte first
abbrev pub tape : List Step → List ℕ
tape [] = []
tape (said byte ∷ steps) = tape steps ++ byte ∷ []
tape (on file change ∷ steps) = tape steps

-- the history after these bytes were said, one by one
abbrev pub saying : List ℕ → List Step → List Step
saying [] steps = steps
saying (byte ∷ bytes) steps = saying bytes (said byte ∷ steps)

-- the history after each of these files was synced, one by one
abbrev pub syncing : List ℕ → List Step → List Step
syncing [] steps = steps
syncing (file ∷ files) steps = syncing files (on file synced ∷ steps)

-- The moment is the number of steps so far. This is the history at an earlier moment.
abbrev pub back_to : ℕ → List Step → List Step
back_to moment steps = drop (length steps - moment) steps
