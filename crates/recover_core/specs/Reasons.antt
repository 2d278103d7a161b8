-- Why an entry isn't placed, as an error says it.
use Rattle.std.specs.Prelude.{◌≡◌, Option, Some, None}
use Rattle.many_logs.specs.Unplaced.{Unplaced, illegal, unclosed}
use Rattle.recover_core.specs.declared.error.RecoverError.{RecoverError}
use Rattle.recover_core.specs.declared.error.RecoverError.TheVariants as errors

abbrev pub IsReasonOf : RecoverError → Unplaced → Type 0
IsReasonOf (errors.Illegal partition position) found = found ≡ illegal partition position
IsReasonOf (errors.Unclosed partition position src seq) found = found ≡ unclosed partition position src seq
IsReasonOf other found = ⊥

abbrev pub IsReason : RecoverError → Option Unplaced → Type 0
IsReason error None = ⊥
IsReason error (Some found) = IsReasonOf error found

-- the reason that is found, or none where there is none
abbrev pub SaysReason : Option RecoverError → Option Unplaced → Type 0
SaysReason None found = found ≡ None
SaysReason (Some error) found = IsReason error found
