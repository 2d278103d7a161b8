-- The numbers that are kept by names, as a function.
use Rattle.std.specs.Prelude.{ℕ, ◌==◌, List, [], ◌∷◌, if◌then◌else◌, Option, Some, None}
use Rattle.std.specs.declared.collections.VecDeque.{VecDeque}
use Rattle.std.specs.BTreeMap.{get}
use Rattle.std.specs.Cmp.Lexicographic.{slice_cmp}
use Rattle.std.specs.Ordering.{nat_cmp}
use Rattle.std.specs.Str.{bytes_eq}
use Rattle.flow_tasks.specs.declared.by_name.NumbersByName.{NumbersByName}

-- none where there is no queue
abbrev pub items_or_none : {Y : Type 0} → Option (VecDeque ℕ Y) → List ℕ
items_or_none None = []
items_or_none (Some queue) = queue.items

abbrev pub numbers_in : NumbersByName → List ℕ → List ℕ
numbers_in numbers name = items_or_none (get (slice_cmp nat_cmp) numbers.queues name)

abbrev pub no_number : List ℕ → List ℕ
no_number name = []

-- at one name these, elsewhere as before
abbrev pub at_name : (List ℕ → List ℕ) → List ℕ → List ℕ → List ℕ → List ℕ
at_name f name numbers other = if bytes_eq name other then numbers else f other

-- without the first such number
abbrev pub without : ℕ → List ℕ → List ℕ
without number [] = []
without number (other ∷ numbers) = if number == other then numbers else other ∷ without number numbers
