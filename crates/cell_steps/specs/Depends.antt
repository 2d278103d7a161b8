-- What entries that aren't settled depend on.
use Rattle.std.specs.Prelude.{◌≡◌, ℕ, ◌≤◌, ◌-◌, ◌==◌, List, [], ◌∷◌, ◌++◌, length, drop, Option, Some, None, if◌then◌else◌}
use Rattle.std.specs.List.{All, Contains}
use Rattle.dura_model.specs.Partition.{Partition}
use Rattle.dura_value.specs.Dependencies.{named_by, Lost}
use Rattle.dura_value.specs.Items.{Identity, Entry}
use Rattle.spec_tracker.specs.Marks.{floors_of}
use Rattle.spec_tracker.specs.declared.marks.Marks.{Marks}

abbrev pub identity_in : (number : ℕ) → Entry → Identity
identity_in number e = record { partition = number; incarnation = e.incarnation; position = e.position }

-- the last entry that made a state, if any did
abbrev pub last_made : Partition → Option Identity
last_made p = if p.position == 0 then None else Some (record { partition = p.number; incarnation = p.incarnation; position = p.position - 1 })

-- an entry depends on the one right before it and on those that its items name
abbrev pub depends_on : (before : Option Identity) → Entry → List Identity
depends_on None e = named_by e.items
depends_on (Some before) e = before ∷ named_by e.items

-- what each of a partition's entries depends on, behind this one
abbrev pub dependencies : (number : ℕ) → (before : Option Identity) → List Entry → List (List Identity)
dependencies number before [] = []
dependencies number before (e ∷ entries) = depends_on before e ∷ dependencies number (Some (identity_in number e)) entries

-- none of these was given up
abbrev pub AreKept : Marks → List Identity → Type 0
AreKept marks = All (λ e. Lost (floors_of marks) e → ⊥)

-- From a place on this is the first whose dependencies have one that was given up.
pub record IsFirstLost (marks : Marks) (deps : List (List Identity)) (from place : ℕ) (lost : Identity) : Type 0 where
  pub behind : from ≤ place
  pub front : List (List Identity)
  pub own : List Identity
  pub back : List (List Identity)
  pub split : deps ≡ front ++ own ∷ back
  pub place_is : length front ≡ place
  pub before : All (AreKept marks) (drop from front)
  pub named : Contains own lost
  pub given_up : Lost (floors_of marks) lost
