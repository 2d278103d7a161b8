use Rattle.std.proofs.Common.{sym, ap}
use Rattle.hub_store.specs.Ways.{stage_of}
use Rattle.hub_store.proofs.way.reached.Goals as goal

pub returns-in-Resting : goal.returns-in-Resting
returns-in-Resting c = ap stage_of (sym c.in-Resting.is)

pub returns-in-Bodied : goal.returns-in-Bodied
returns-in-Bodied c = ap stage_of (sym c.in-Bodied.is)

pub returns-in-Synced : goal.returns-in-Synced
returns-in-Synced c = ap stage_of (sym c.in-Synced.is)

pub returns-in-Gated : goal.returns-in-Gated
returns-in-Gated c = ap stage_of (sym c.in-Gated.is)
