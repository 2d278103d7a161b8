-- The items of what was settled, and who took in the last message of each stream by then.
use Rattle.std.specs.Prelude.{ℕ, List, [], ◌∷◌}
use Rattle.std.specs.List.{flat_map}
use Rattle.dura_value.specs.Items.{Identity, Item}
use Rattle.gated_store.specs.Causal.{identity_of}
use Rattle.hub_store.specs.Trail.{Settled}
use Rattle.log_items.specs.Readings.{readers_after}

abbrev pub items_settled : List Settled → List Item
items_settled = flat_map (λ one. one.entry.items)

abbrev pub readers_settled : (ℕ → Identity) → List Settled → ℕ → Identity
readers_settled readers [] = readers
readers_settled readers (one ∷ trail) = readers_settled (readers_after (identity_of one) readers one.entry.items) trail
