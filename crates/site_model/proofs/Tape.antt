-- Bytes that are said stand behind the tape, and change no file.
use Rattle.std.proofs.Common.{◌≡◌, ℕ, List, [], ◌∷◌, ◌++◌, take, Result, refl, sym, ap, ◌∙◌, append_assoc}
use Rattle.std.proofs.lemmas.List.{append-nil}
use Rattle.site_model.specs.History.{Step, said, saying, tape, changes_of}
use Rattle.site_model.specs.Calls.{Says}

pub tape-saying : (bytes : List ℕ) (steps : List Step) → tape (saying bytes steps) ≡ tape steps ++ bytes
tape-saying [] steps = sym (append-nil (tape steps))
tape-saying (byte ∷ bytes) steps = tape-saying bytes (said byte ∷ steps) ∙ append_assoc (tape steps) (byte ∷ []) bytes

pub changes_of-saying : (file : ℕ) (bytes : List ℕ) (steps : List Step) → changes_of file (saying bytes steps) ≡ changes_of file steps
changes_of-saying file [] steps = refl
changes_of-saying file (byte ∷ bytes) steps = changes_of-saying file bytes (said byte ∷ steps)

pub says_no_file : {T E : Type 0} (line : List ℕ) (old new : List Step) (result : Result T E) → Says line old new result → (file : ℕ) → changes_of file new ≡ changes_of file old
says_no_file line old new result call file = ap (changes_of file) call.steps ∙ changes_of-saying file (take call.count line) old
