use Rattle.world_laws.proofs.EachEvent.{never_refused}
use Rattle.world_laws.proofs.laws.no_gate_refuses.Goals as goal

pub returns : goal.returns
returns c rules mode nodes made old new partition why on stands ground are happens = never_refused rules mode nodes made old new are on stands ground partition why happens
