-- What the parts of the reader answer.
use Rattle.std.specs.Prelude.{◌≡◌, Option, Some, None, Result, Ok, Err}
use Rattle.request_reader.specs.declared.error.ReadError.{ReadError}
use Rattle.request_reader.specs.declared.error.ReadError.TheVariants as errors

-- what was read, seen by view, is what is wanted; refused is what wants nothing; and memory may run out
abbrev pub LineGives : {X Y : Type 0} → (X → Y) → Result X ReadError → Option Y → Type 0
LineGives view (Ok x) wanted = wanted ≡ Some (view x)
LineGives view (Err errors.Refused) wanted = wanted ≡ None
LineGives view (Err errors.Memory) wanted = Unit {0}
