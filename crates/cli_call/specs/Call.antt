-- What the arguments of the program spell.
use Rattle.std.specs.Prelude.{◌≡◌, List, ◌∷◌, map, string_bytes}
use Rattle.std.specs.List.{All}
use Rattle.std.specs.declared.string.String.{String}
use Rattle.dura_value.specs.Text.{IsText}
use Rattle.run_causes.specs.declared.cause.Cause.{Cause}
use Rattle.run_causes.specs.declared.cause.Cause.TheVariants.{Usage, Memory}
use Rattle.cli_call.specs.declared.call.Call.{Call}
use Rattle.cli_call.specs.declared.call.CallError.{CallError}
use Rattle.cli_call.specs.declared.call.CallError.TheVariants as errors

-- the program's name, a directory, and words that are texts
abbrev pub IsCall : {Z : Type 0} → List (String Z) → Type 0
IsCall (program ∷ directory ∷ words) = All IsText (map string_bytes words)
IsCall other = ⊥

-- the directory of the call is the second argument, and its words are those behind it, in their order
abbrev pub Spells : {Z : Type 0} → List (String Z) → Call → Type 0
Spells (program ∷ directory ∷ words) call =
    (string_bytes call.directory ≡ string_bytes directory) × (call.words.items ≡ map string_bytes words) × All IsText call.words.items
Spells other call = ⊥

-- why the program ends where there is no call
abbrev pub cause_of : CallError → Cause
cause_of errors.Usage = Usage
cause_of errors.NotUtf8 = Usage
cause_of errors.Memory = Memory
