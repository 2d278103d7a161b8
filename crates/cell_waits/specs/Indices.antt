-- When indices agree with what waits.
use Rattle.std.specs.Prelude.{◌≡◌, ℕ, ◌+◌, Bool, if◌then◌else◌, List, [], ◌∷◌, count_by}
use Rattle.dura_value.specs.Ids.{Id}
use Rattle.cell_waits.specs.Keys.{counts_in, places_in}
use Rattle.cell_waits.specs.Waits.{Waiting, waits_of, is_of_stream, is_trim_of, is_request_of, is_of_task}
use Rattle.cell_waits.specs.declared.indices.Indices.{Indices}
use Rattle.cell_waits.specs.declared.waits.Waits.{Waits}

-- the places of those that pass a test, where the first of all is at this place
abbrev pub places_of : (Waiting → Bool) → ℕ → List Waiting → List ℕ
places_of test first [] = []
places_of test first (w ∷ waiting) = if test w then first ∷ places_of test (first + 1) waiting else places_of test (first + 1) waiting

-- The indices have how many packets and trims wait, and where requests and outcomes do.
pub record Agrees (indices : Indices) (first : ℕ) (waiting : List Waiting) : Type 0 where
  pub packets : (source : ℕ) → counts_in indices.packets source ≡ count_by (is_of_stream source) waiting
  pub trims : (target : ℕ) → counts_in indices.trims target ≡ count_by (is_trim_of target) waiting
  pub requests : (asker : Id) (number : ℕ) → places_in indices.requests asker number ≡ places_of (is_request_of asker number) first waiting
  pub outcomes : (id : Id) (task : ℕ) → places_in indices.outcomes id task ≡ places_of (is_of_task id task) first waiting

-- the indices agree with the queue
abbrev pub IsIndexed : Waits → Type 0
IsIndexed w = Agrees w.indices w.first (waits_of w)
