-- What each call of the outside does to its history and its counts of faults.
use Rattle.std.specs.Prelude.{◌≡◌, ◌⊎◌, ℕ, ◌+◌, ◌^◌, ◌<◌, ◌≤◌, ◌-◌, min, List, ◌∷◌, length, take, drop, Result, OnOk, OnErr}
use Rattle.site_model.specs.History.{Step, on, wrote, synced, saying, syncing}

-- a count of faults rose, or had come to the last number that it can hold
abbrev pub HasRisen : ℕ → ℕ → Type 0
HasRisen before now = (before < now) ⊎ (2 ^ 64 ≤ before + 1)

-- The count never falls, an error comes only where it rose, and it rises only where one comes.
pub record HasCause {T E : Type 0} (before now : ℕ) (result : Result T E) : Type 0 where
  pub later : before ≤ now
  pub same : OnOk result (now ≡ before)
  pub risen : OnErr result (HasRisen before now)

-- As many bytes of the content from this offset on as there are and as the buffer holds, in its front.
pub record Reads (content : List ℕ) (at : ℕ) (old new : List ℕ) (count : ℕ) : Type 0 where
  pub number : count ≡ min (length old) (length content - at)
  pub front : take count new ≡ take count (drop at content)

-- A write is one step. Of one that failed some bytes may stand, and its whole range is open to a crash, or nothing happened.
pub record Writes {T E : Type 0} (file at : ℕ) (bytes : List ℕ) (old new : List Step) (result : Result T E) : Type 0 where
  pub now : List ℕ
  pub no_longer : length now ≤ length bytes
  pub either : (new ≡ on file (wrote at (length bytes) now) ∷ old) ⊎ (new ≡ old)
  pub ok : OnOk result (new ≡ on file (wrote at (length bytes) bytes) ∷ old)

-- A sync is one step. One that failed may have happened.
pub record Syncs {T E : Type 0} (file : ℕ) (old new : List Step) (result : Result T E) : Type 0 where
  pub either : (new ≡ on file synced ∷ old) ⊎ (new ≡ old)
  pub ok : OnOk result (new ≡ on file synced ∷ old)

-- One call syncs several files, each of which is one step. Where it failed, it may have synced a prefix of them.
pub record SyncsAll {T E : Type 0} (files : List ℕ) (old new : List Step) (result : Result T E) : Type 0 where
  pub count : ℕ
  pub steps : new ≡ syncing (take count files) old
  pub ok : OnOk result (new ≡ syncing files old)

-- Each byte said is one step. Of a line that failed a front may stand.
pub record Says {T E : Type 0} (line : List ℕ) (old new : List Step) (result : Result T E) : Type 0 where
  pub count : ℕ
  pub steps : new ≡ saying (take count line) old
  pub ok : OnOk result (new ≡ saying line old)
