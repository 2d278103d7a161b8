-- What a replay knows of one file.
use Rattle.std.specs.Prelude.{◌≡◌, ◌==◌, if◌then◌else◌, ℕ, ◌+◌, ◌<◌, ◌≢◌, min, Option, Some, None, List, ◌∷◌, length, slice_index}
use Rattle.site_model.specs.History.{Step, on, wrote, content_of}
use Rattle.site_memory.specs.declared.replay.Place.{Place}

-- where one byte more of the newest step would stand in this file, if that step is a write of it
abbrev pub cursor_of : ℕ → List Step → Option ℕ
cursor_of file (on other (wrote at size bytes) ∷ steps) = if file == other then Some (min at (length (content_of file steps)) + length bytes) else None
cursor_of file steps = None

-- the length of the file, and where the next byte goes
pub record IsPlace (place : Place) (file : ℕ) (steps : List Step) : Type 0 where
  pub length_is : place.length ≡ length (content_of file steps)
  pub cursor_is : place.cursor ≡ cursor_of file steps

-- the buffer has the content from this offset on, as far as both go
abbrev pub Shows : List ℕ → ℕ → List ℕ → Type 0
Shows content at out = (k : ℕ) → k < length out → at + k < length content → slice_index out k ≡ slice_index content (at + k)

-- the byte at this place of the file stands in the buffer, if its place is there, and the others are as they were
pub record IsShown (at cursor byte : ℕ) (old new : List ℕ) : Type 0 where
  pub same_length : length new ≡ length old
  pub here : (k : ℕ) → k < length old → at + k ≡ cursor → slice_index new k ≡ byte
  pub others : (k : ℕ) → at + k ≢ cursor → slice_index new k ≡ slice_index old k
