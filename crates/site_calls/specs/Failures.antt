-- Which calls failed, and how many.
use Rattle.std.specs.Prelude.{Bool, true, false, ◌+◌, ◌<◌, ◌≤◌, if◌then◌else◌, ℕ, List, [], ◌∷◌, Result, OnErr}
use Rattle.site_calls.specs.Events.{Event, failed, lost, flushed, named, unprinted}

-- a call on a file, or on the names of the directory, failed
abbrev pub is_disk_failure : Event → Bool
is_disk_failure (failed file) = true
is_disk_failure (lost bytes) = true
is_disk_failure (flushed file false) = true
is_disk_failure (named false) = true
is_disk_failure other = false

-- a call that prints failed
abbrev pub is_say_failure : Event → Bool
is_say_failure unprinted = true
is_say_failure other = false

-- how many of the calls are such
abbrev pub count_of : (Event → Bool) → List Event → ℕ
count_of is_such [] = 0
count_of is_such (event ∷ events) = (if is_such event then 1 else 0) + count_of is_such events

-- how many calls on files and names failed
abbrev pub disk_failures : List Event → ℕ
disk_failures events = count_of is_disk_failure events

-- how many calls that print failed
abbrev pub say_failures : List Event → ℕ
say_failures events = count_of is_say_failure events

-- No call is taken back, and an error comes with one more that failed.
pub record FailsByCall {T E : Type 0} (is_failure : Event → Bool) (old new : List Event) (result : Result T E) : Type 0 where
  pub kept : (is_such : Event → Bool) → count_of is_such old ≤ count_of is_such new
  pub failed : OnErr result (count_of is_failure old < count_of is_failure new)
