-- A write and the sync behind it.
use Rattle.std.specs.Prelude.{◌≡◌, ◌⊎◌, ℕ, ◌≤◌, List, ◌∷◌, length, Result, OnOk}
use Rattle.site_model.specs.History.{Step, on, wrote, synced}

-- Nothing happened, or the write did, or the sync behind it too.
pub record WritesSafely {T E : Type 0} (file at : ℕ) (bytes : List ℕ) (old new : List Step) (result : Result T E) : Type 0 where
  pub now : List ℕ
  pub no_longer : length now ≤ length bytes
  pub either : (new ≡ old) ⊎ ((new ≡ on file (wrote at (length bytes) now) ∷ old) ⊎ (new ≡ on file synced ∷ on file (wrote at (length bytes) now) ∷ old))
  pub ok : OnOk result (new ≡ on file synced ∷ on file (wrote at (length bytes) bytes) ∷ old)
