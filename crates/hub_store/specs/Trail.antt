-- What a call settled and said.
use Rattle.std.specs.Prelude.{ℕ, ◌==◌, List, [], ◌∷◌, nat_le, if◌then◌else◌}
use Rattle.std.specs.List.{filter}
use Rattle.dura_value.specs.Items.{Entry}

-- an entry of a partition, and the moment at which it was settled
pub record Settled : Type 0 where
  pub partition : ℕ
  pub entry : Entry
  pub at : ℕ

-- a request whose answer was said
pub record Said : Type 0 where
  pub client : List ℕ
  pub number : ℕ

-- the entries of one partition
abbrev pub of_part : ℕ → List Settled → List Entry
of_part partition [] = []
of_part partition (one ∷ trail) = if one.partition == partition then one.entry ∷ of_part partition trail else of_part partition trail

-- the entries of a frame, settled at this moment
abbrev pub settling : ℕ → ℕ → List Entry → List Settled
settling partition at [] = []
settling partition at (entry ∷ entries) = record { partition = partition; entry = entry; at = at } ∷ settling partition at entries

-- what was settled by this moment
abbrev pub settled_at : ℕ → List Settled → List Settled
settled_at moment = filter (λ one. nat_le one.at moment)
