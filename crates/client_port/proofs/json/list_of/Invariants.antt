-- The scalars so far were written.
use Rattle.std.proofs.Common.{◌≡◌, take}
use Rattle.std.specs.Prelude.{map}
use Rattle.serde_json.specs.View.{view}
use Rattle.client_port.specs.Lines.{scalar_data}
use Rattle.client_port.proofs.json.list_of.Given as goal

abbrev pub invariant-loop-scalar : goal.invariant-loop-scalar
invariant-loop-scalar l = map view l.parts.items ≡ map scalar_data (take l.scalar-index l.scalars)
