-- What entries make of a partition's state.
use Rattle.std.specs.Prelude.{◌≡◌, ℕ, ◌+◌, List, [], ◌∷◌, ◌++◌, Option, Some, None, Result, Ok, Err}
use Rattle.std.specs.Option.{option_and_then}
use Rattle.dura_value.specs.Items.{Item, Entry}
use Rattle.dura_value.specs.Reading.{◌>>=◌}
use Rattle.flow_syntax.specs.Syntax.{Flows}
use Rattle.dura_model.specs.Partition.{Partition, enter, accepted, label_in, shown}
use Rattle.dura_model.specs.Placed.{IsGiven}
use Rattle.dura_model.specs.Steps.{Label}
use Rattle.dura_model.specs.World.{World}

-- the state that items make one after another, if each is accepted
abbrev pub all_accepted : Flows → (count : ℕ) → Partition → List Item → Option Partition
all_accepted flows count p [] = Some p
all_accepted flows count p (item ∷ items) = option_and_then (λ next. all_accepted flows count next items) (accepted flows count p item)

-- the state that an entry makes
abbrev pub entry_accepted : Flows → (count : ℕ) → Partition → Entry → Option Partition
entry_accepted flows count p entry = all_accepted flows count (enter entry.incarnation p) entry.items

abbrev pub or_place : {X : Type 0} → ℕ → Option X → Result X ℕ
or_place position None = Err position
or_place position (Some x) = Ok x

-- the state that entries make one after another, or the position of the first that isn't accepted
abbrev pub placed : Flows → (count : ℕ) → Partition → List Entry → Result Partition ℕ
placed flows count p [] = Ok p
placed flows count p (entry ∷ entries) = or_place entry.position (entry_accepted flows count p entry) >>= λ next. placed flows count next entries

-- the incarnation that goes on behind entries, one later than the last one's
abbrev pub incarnation_behind : ℕ → List Entry → ℕ
incarnation_behind incarnation [] = incarnation
incarnation_behind incarnation (entry ∷ entries) = incarnation_behind (entry.incarnation + 1) entries

abbrev pub next_incarnation : List Entry → ℕ
next_incarnation = incarnation_behind 0

-- the world that the state of the one partition shows
abbrev pub shown_by : Flows → Partition → World
shown_by flows p = shown flows 1 (λ place. p)

-- ---- what they stand for

abbrev pub and_label : Option Label → List Label → List Label
and_label None labels = labels
and_label (Some label) labels = label ∷ labels

-- the labels of items
abbrev pub labels_of : List Item → List Label
labels_of [] = []
labels_of (item ∷ items) = and_label (label_in item) (labels_of items)

-- the labels of entries, in their order
abbrev pub labels_in : List Entry → List Label
labels_in [] = []
labels_in (entry ∷ entries) = labels_of entry.items ++ labels_in entries

-- each outcome among these items is one that the activity may give that is pending where it comes
abbrev pub AreGiven : Flows → (count : ℕ) → Partition → List Item → Type 0
AreGiven flows count p [] = Unit {0}
AreGiven flows count p (item ∷ items) = IsGiven p item × ((next : Partition) → accepted flows count p item ≡ Some next → AreGiven flows count next items)

abbrev pub AllGiven : Flows → (count : ℕ) → Partition → List Entry → Type 0
AllGiven flows count p [] = Unit {0}
AllGiven flows count p (entry ∷ entries) =
    AreGiven flows count (enter entry.incarnation p) entry.items × ((next : Partition) → entry_accepted flows count p entry ≡ Some next → AllGiven flows count next entries)
