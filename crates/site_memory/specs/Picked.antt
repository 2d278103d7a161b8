-- What each pick leaves of a file.
use Rattle.std.specs.Prelude.{ℕ, ◌+◌, ◌-◌, min, Option, Some, None, List, [], ◌∷◌, ◌++◌, length, take, drop, replicate}
use Rattle.site_model.specs.History.{Change, wrote, synced, reads}
use Rattle.site_memory.specs.declared.pick.Pick.{Pick}
use Rattle.site_memory.specs.declared.pick.Pick.TheVariants.{Stable, All, Torn}

-- old with this byte throughout a range, and longer where the range goes past its end
abbrev pub filled : ℕ → ℕ → ℕ → List ℕ → List ℕ
filled byte at end old = (take at old ++ replicate (end - min at (length old)) byte) ++ drop end old

-- old after a write that was not synced: its range as it was, or filled with a byte
abbrev pub after_write : Option ℕ → ℕ → ℕ → List ℕ → List ℕ
after_write None at size old = old
after_write (Some byte) at size old = filled byte at (at + size) old

-- a file whose ranges that were not synced are as they were, or filled with a byte
abbrev pub torn : Option ℕ → List Change → List ℕ
torn fill [] = []
torn fill (wrote at size bytes ∷ changes) = after_write fill at size (torn fill changes)
torn fill (synced ∷ changes) = reads changes

-- what the pick leaves of a file
abbrev pub picked : Pick → List Change → List ℕ
picked Stable changes = torn None changes
picked All changes = reads changes
picked (Torn byte) changes = torn (Some byte) changes
