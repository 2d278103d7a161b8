-- Claims on every moment between two histories.
use Rattle.std.specs.Prelude.{◌≡◌, ◌≢◌, ℕ, List, ◌∷◌}
use Rattle.site_model.specs.History.{Step, changes_of, tape, Leaves}

-- The new history goes on from the old one, and P holds of it at each moment from the old one to the new, both included.
pub data Always (P : List Step → Type 0) (old : List Step) : List Step → Type 0 where
  begins : P old → Always P old old
  goes_on : {new : List Step} {step : Step} → Always P old new → P (step ∷ new) → Always P old (step ∷ new)

-- nothing happened but to this file
pub record OnlyFile (file : ℕ) (old new : List Step) : Type 0 where
  pub others : (other : ℕ) → other ≢ file → changes_of other new ≡ changes_of other old
  pub same_tape : tape new ≡ tape old

-- nothing happened but to this file, of which a crash leaves only what has P
pub record ImageKeeps (file : ℕ) (old : List Step) (P : List ℕ → Type 0) (steps : List Step) : Type 0 where
  pub only : OnlyFile file old steps
  pub images : (image : List ℕ) → Leaves (changes_of file steps) image → P image

-- at each moment of a call
abbrev pub LeavesOnly : ℕ → List Step → List Step → (List ℕ → Type 0) → Type 0
LeavesOnly file old new P = Always (ImageKeeps file old P) old new
