-- Each write of each file began inside it.
use Rattle.std.proofs.Common.{ℕ, ◌≤◌, List, ◌∷◌, length, ◌∙◌, ap}
use Rattle.std.proofs.lemmas.Bool.{le-leb}
use Rattle.site_model.specs.History.{Step, on, wrote, synced, content_of, writes_inside, saying, AllInside}
use Rattle.site_model.proofs.Paths.{inside_on, and_true}
use Rattle.site_model.proofs.Tape.{changes_of-saying}

pub inside_wrote : (file at size : ℕ) (bytes : List ℕ) (steps : List Step) → at ≤ length (content_of file steps) → length bytes ≤ size
    → AllInside steps → AllInside (on file (wrote at size bytes) ∷ steps)
inside_wrote file at size bytes steps within fits before =
    inside_on file (wrote at size bytes) steps before
    (and_true (and_true (le-leb at (length (content_of file steps)) within) (le-leb (length bytes) size fits)) (before file))

pub inside_synced : (file : ℕ) (steps : List Step) → AllInside steps → AllInside (on file synced ∷ steps)
inside_synced file steps before = inside_on file synced steps before (before file)

pub inside_said : (line : List ℕ) (steps : List Step) → AllInside steps → AllInside (saying line steps)
inside_said line steps before file = ap writes_inside (changes_of-saying file line steps) ∙ before file
