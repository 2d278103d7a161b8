-- How a run may end where nothing is wrong with its files, and the outside doesn't fail.
use Rattle.std.specs.Prelude.{◌≡◌, ℕ, List, Some}
use Rattle.cluster_run.specs.Complete.{AreFit, IsSound, NoneRose}
use Rattle.cluster_run.specs.Faults.{Faults}
use Rattle.command_words.specs.Command.{call_in}
use Rattle.command_words.specs.declared.words.Call.TheVariants.{Run}
use Rattle.command_words.specs.declared.words.RunOptions.{RunOptions}
use Rattle.run_causes.specs.declared.cause.Cause.{Cause}

-- Where the words ask for a run, its files are fit and nothing failed, it ends for a cause that lies neither with files nor with the
-- outside.
abbrev pub EndsSoundly : (words : List (List ℕ)) → (tells : Type 0) → (files : ℕ → List ℕ) → (before after : Faults) → Cause → Type 0
EndsSoundly words tells files before after cause = tells → (options : RunOptions) → call_in words ≡ Some (Run options) → AreFit options files → NoneRose before after → IsSound cause
