-- All scalars were written.
use Rattle.std.proofs.Common.{◌∙◌, ap, arith}
use Rattle.serde_json.proofs.Views.{view-Array}
use Rattle.serde_json.specs.Data.{array}
use Rattle.client_port.proofs.Parts.{whole}
use Rattle.client_port.proofs.json.list_of.Goals as goal

pub returns : goal.returns
returns c = view-Array c.loop-scalar.parts ∙ ap array (whole c.loop-scalar.parts.items c.args.scalars.now c.loop-scalar.scalar-index (omega arith) (omega arith) c.loop-scalar.invariant)
