-- What the calls of the system have said so far, and the history that follows from it.
use Rattle.std.specs.Prelude.{◌≡◌, Bool, true, false, ◌||◌, ℕ, zero, suc, ◌+◌, ◌^◌, ◌<◌, ◌≤◌, if◌then◌else◌, List, [], ◌∷◌, ◌++◌, length, take, drop}
use Rattle.site_model.specs.History.{Step, on, wrote, synced, content_of, saying}

-- one call with its answer
pub data Event : Type 0 where
  -- a file was looked for, and is there or not
  found : (file : ℕ) → (is_there : Bool) → Event
  -- a file that wasn't there was made
  made : (file : ℕ) → Event
  -- a file has so many bytes
  measured : (file size : ℕ) → Event
  -- of a read of so many bytes from this offset on these have come so far, and the last call gave so many
  got : (file at want count : ℕ) → (bytes : List ℕ) → Event
  -- a write of so many bytes at this offset begins
  begun : (file at size : ℕ) → Event
  -- of the write that began these bytes are written so far
  put : (bytes : List ℕ) → Event
  -- a call of the write that began failed behind these bytes, and may have left any others
  lost : (bytes : List ℕ) → Event
  -- what a file holds was to be made safe
  flushed : (file : ℕ) → (is_safe : Bool) → Event
  -- the names of the directory were to be made safe
  named : (is_safe : Bool) → Event
  -- a file that isn't there was to be made safe
  absent : (file : ℕ) → Event
  -- these bytes were printed
  printed : (bytes : List ℕ) → Event
  -- a call on a file failed, or was refused, and changed nothing
  failed : (file : ℕ) → Event
  -- a call that prints failed, and printed nothing
  unprinted : Event

-- the calls once each of these files was made safe, one by one
abbrev pub flushing : List ℕ → List Event → List Event
flushing [] events = events
flushing (file ∷ files) events = flushing files (flushed file true ∷ events)

-- What no answer tells: what each file held at the start, and what the call of a write that failed left, by the number
-- of events before it.
pub record Unseen : Type 0 where
  pub files : ℕ → List ℕ
  pub left : ℕ → List ℕ

-- how many numbers there are of files
abbrev pub file_numbers : ℕ
file_numbers = 144

-- each file below this number was written once and made safe
unfoldable pub held_below : ℕ → (ℕ → List ℕ) → List Step
held_below zero files = []
held_below (suc n) files = on n synced ∷ on n (wrote 0 (length (files n)) (files n)) ∷ held_below n files

-- the history at the start of a program, with a tape on which nothing stands
unfoldable pub start_of : (ℕ → List ℕ) → List Step
start_of files = held_below file_numbers files

-- how things stand after some events
pub record Standing : Type 0 where
  pub steps : List Step
  -- a crash may take the name of a file that was made
  pub loose : Bool
  -- a call that makes safe has failed, so no later one is believed
  pub broken : Bool

-- the newest step, a write, with these bytes in its front
abbrev pub rewritten : List ℕ → List Step → List Step
rewritten bytes (on file (wrote at size old) ∷ steps) = on file (wrote at size (bytes ++ drop (length bytes) old)) ∷ steps
rewritten bytes other = other

-- the newest step, a write, with these bytes in its front and behind them what a failed call left
abbrev pub spoiled : List ℕ → List ℕ → List Step → List Step
spoiled bytes left (on file (wrote at size old) ∷ steps) = on file (wrote at size (take size (bytes ++ drop (length bytes) left))) ∷ steps
spoiled bytes left other = other

-- What an event makes of it. A sync counts only where every name is safe and none has failed before.
abbrev pub after : List ℕ → Event → Standing → Standing
after left (found file is_there) m = m
after left (made file) m = record m { loose = true }
after left (measured file size) m = m
after left (got file at want count bytes) m = m
after left (begun file at size) m = record m { steps = on file (wrote at size []) ∷ m.steps }
after left (put bytes) m = record m { steps = rewritten bytes m.steps }
after left (lost bytes) m = record m { steps = spoiled bytes left m.steps }
after left (flushed file true) m = record m { steps = if m.loose || m.broken then m.steps else on file synced ∷ m.steps }
after left (flushed file false) m = record m { broken = true }
after left (named true) m = record m { loose = false }
after left (named false) m = record m { broken = true }
after left (absent file) m = record m { steps = on file synced ∷ m.steps }
after left (printed bytes) m = record m { steps = saying bytes m.steps }
after left (failed file) m = m
after left unprinted m = m

-- how things stand after all events, the newest first
abbrev pub replay : Unseen → List Event → Standing
replay unseen [] = record { steps = start_of unseen.files; loose = false; broken = false }
replay unseen (event ∷ events) = after (unseen.left (length events)) event (replay unseen events)

-- the answer is that of a file system where this has happened
abbrev pub Agrees : Event → List Step → Type 0
Agrees (found file true) steps = Unit {0}
Agrees (found file false) steps = content_of file steps ≡ []
Agrees (made file) steps = Unit {0}
Agrees (measured file size) steps = size ≡ length (content_of file steps)
Agrees (got file at want count bytes) steps =
    (bytes ≡ take (length bytes) (drop at (content_of file steps))) × (count ≡ 0 → length bytes < want → length (content_of file steps) ≤ at + length bytes)
Agrees (begun file at size) steps = Unit {0}
Agrees (put bytes) steps = Unit {0}
Agrees (lost bytes) steps = Unit {0}
Agrees (flushed file is_safe) steps = Unit {0}
Agrees (named is_safe) steps = Unit {0}
Agrees (absent file) steps = Unit {0}
Agrees (printed bytes) steps = Unit {0}
Agrees (failed file) steps = Unit {0}
Agrees unprinted steps = Unit {0}

-- each answer is that of files that held this at the start and that nobody else wrote
abbrev pub IsHonest : Unseen → List Event → Type 0
IsHonest unseen [] = Unit {0}
IsHonest unseen (event ∷ events) = IsHonest unseen events × Agrees event (replay unseen events).steps

-- that, and the steps can be counted
abbrev pub Tells : Unseen → List Event → Type 0
Tells unseen events = IsHonest unseen events × (length (replay unseen events).steps < 2 ^ 64)
