-- Each entry that was settled stands behind all that it depends on.
use Rattle.std.specs.Prelude.{◌⊎◌, ℕ, List, [], ◌++◌, map}
use Rattle.std.specs.List.{All, Contains}
use Rattle.dura_value.specs.Dependencies.{named_by}
use Rattle.dura_value.specs.Items.{Identity, Entry}
use Rattle.commit_gate.specs.Ledgers.{Ledger, IsKnown}
use Rattle.hub_store.specs.Trail.{Settled, settling}
use Rattle.log_items.specs.Entries.{items_in, AreInTurn}

abbrev pub identity_of : Settled → Identity
identity_of one = record { partition = one.partition; incarnation = one.entry.incarnation; position = one.entry.position }

-- by its identity an entry was recovered, or is on the trail
abbrev pub IsThere : (begin : ℕ → Ledger) → List Settled → Identity → Type 0
IsThere begin trail e = IsKnown (begin e.partition) e ⊎ Contains (map identity_of trail) e

-- Frame by frame: each entry that its items name was there before it, and its entries go on one position after another from where the
-- log of its partition ended. So each entry's dependencies were recovered, or are earlier on the trail, or earlier in its own frame.
pub data Causal (begin : ℕ → Ledger) (log_lengths : List Settled → ℕ → ℕ) : List Settled → Type 0 where
  nothing : Causal begin log_lengths []
  one_more : {trail : List Settled} (partition at : ℕ) (going : List Entry) → Causal begin log_lengths trail → All (IsThere begin trail) (named_by (items_in going))
      → AreInTurn (log_lengths trail partition) going → Causal begin log_lengths (trail ++ settling partition at going)
