-- The history that a record says.
use Rattle.std.specs.Prelude.{ℕ, List, [], ◌∷◌, ◌++◌}
use Rattle.site_model.specs.History.{Step, on, said, wrote, synced}
use Rattle.site_memory.specs.declared.kept.Kept.{Kept}
use Rattle.site_memory.specs.declared.kept.Kept.TheVariants.{Wrote, Byte, Synced, Said}

-- the newest step, if it is a write, reads one byte more
abbrev pub grown : ℕ → List Step → List Step
grown byte (on file (wrote at size bytes) ∷ steps) = on file (wrote at size (bytes ++ byte ∷ [])) ∷ steps
grown byte steps = steps

-- the history after one more entry
abbrev pub next : Kept → List Step → List Step
next (Wrote file at size) steps = on file (wrote at size []) ∷ steps
next (Byte byte) steps = grown byte steps
next (Synced file) steps = on file synced ∷ steps
next (Said byte) steps = said byte ∷ steps

-- the history after these entries, the oldest first
abbrev pub replayed : List Kept → List Step → List Step
replayed [] steps = steps
replayed (entry ∷ entries) steps = replayed entries (next entry steps)

-- the history that a record says
unfoldable pub history_of : List Kept → List Step
history_of entries = replayed entries []
