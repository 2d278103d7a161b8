-- What reading the words answers.
use Rattle.std.specs.Prelude.{◌≡◌, Option, Some, None, Result, Ok, Err}
use Rattle.command_words.specs.declared.words.WordsError.{WordsError}
use Rattle.command_words.specs.declared.words.WordsError.TheVariants as errors

-- what was read is what is wanted; usage is what wants nothing; and memory may run out
abbrev pub WordsGive : {X : Type 0} → Result X WordsError → Option X → Type 0
WordsGive (Ok x) wanted = wanted ≡ Some x
WordsGive (Err errors.Usage) wanted = wanted ≡ None
WordsGive (Err errors.Memory) wanted = Unit {0}
