-- What clients are told, by computation.
use Rattle.std.proofs.Common.{refl}
use Rattle.std.specs.Fmt.{digits}
use Rattle.serde_json.proofs.OnLiterals.{serde_json_on_literals}
use Rattle.worked_rows.specs.Ports.{BeginsSo, GoesOnSo, EndsSo}

pub begins : BeginsSo
begins = refl

pub goes_on : GoesOnSo
goes_on = (refl, refl, refl, refl)

pub ends : EndsSo
unfolding serde_json_on_literals digits
ends = (refl, refl)
