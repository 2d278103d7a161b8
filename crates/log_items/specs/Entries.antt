-- Entries of a partition: who they are, and what they keep.
use Rattle.std.specs.Prelude.{◌≡◌, ℕ, ◌+◌, List, [], ◌∷◌, map}
use Rattle.std.specs.List.{flat_map}
use Rattle.dura_value.specs.Items.{Identity, Item, Entry}

abbrev pub items_in : List Entry → List Item
items_in = flat_map (λ e. e.items)

abbrev pub incarnations_in : List Entry → List ℕ
incarnations_in = map (λ e. e.incarnation)

abbrev pub identity_at : (partition : ℕ) → Entry → Identity
identity_at partition entry = record { partition = partition; incarnation = entry.incarnation; position = entry.position }

abbrev pub identities_at : (partition : ℕ) → List Entry → List Identity
identities_at partition = map (identity_at partition)

-- positions go on by one from here
abbrev pub AreInTurn : (position : ℕ) → List Entry → Type 0
AreInTurn position [] = Unit {0}
AreInTurn position (entry ∷ entries) = (entry.position ≡ position) × AreInTurn (position + 1) entries
