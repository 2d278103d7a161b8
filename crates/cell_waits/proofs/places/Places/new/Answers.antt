use Rattle.std.proofs.Common.{ap}
use Rattle.cell_waits.specs.Keys.{listed}
use Rattle.cell_waits.proofs.places.Places.new.Goals as goal

pub returns : goal.returns
returns c = ap (λ f id number. listed (f id number)) c.new.ensures
