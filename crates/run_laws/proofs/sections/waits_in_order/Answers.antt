-- A lock goes through its set in order.
use Rattle.run_laws.proofs.Ordered.{waits_for_larger}
use Rattle.run_laws.proofs.sections.waits_in_order.Goals as goal

pub returns : goal.returns
returns c = waits_for_larger
