-- Where an incarnation of a partition begins.
use Rattle.std.specs.Prelude.{◌≡◌, ◌≢◌, ℕ, [], ◌∷◌, ◌++◌}
use Rattle.cell_frames.specs.Joined.{StoreView}
use Rattle.dura_value.specs.Items.{Floor}

-- The store knows of one more incarnation of a partition, which begins there, and nothing else changed.
pub record BeginsAt (partition : ℕ) (floor : Floor) (old new : StoreView) : Type 0 where
  pub own : new.floors partition ≡ old.floors partition ++ floor ∷ []
  pub others : (other : ℕ) → other ≢ partition → new.floors other ≡ old.floors other
  pub rest : new ≡ record old { floors = new.floors }
