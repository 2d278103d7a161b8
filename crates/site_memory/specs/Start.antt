-- The start of a site after a crash.
use Rattle.std.specs.Prelude.{◌≡◌, ◌⊎◌, true, ℕ, List, []}
use Rattle.site_model.specs.History.{Step, changes_of, content_of, writes_inside, tape, IsKept}
use Rattle.site_memory.specs.declared.pick.Pick.{Pick}
use Rattle.site_memory.specs.Picked.{picked}

-- Of each file the new history has what the pick leaves of the old one, or it has no change of the file and the part
-- of the old one that was walked has none either. A crash of the new one leaves what a read gives.
pub record IsStart (pick : Pick) (old walked new : List Step) : Type 0 where
  pub files : (file : ℕ) → (content_of file new ≡ picked pick (changes_of file old)) ⊎ ((changes_of file new ≡ []) × (changes_of file walked ≡ []))
  pub no_tape : tape new ≡ []
  pub inside : (file : ℕ) → writes_inside (changes_of file new) ≡ true
  pub kept : (file : ℕ) → IsKept (changes_of file new)
