use Rattle.many_logs.proofs.OrdersStand.{orders_stand}
use Rattle.many_logs.proofs.laws.kept_entries_stand.Goals as goal

pub returns : goal.returns
returns c flows count digest files commits are = orders_stand flows count digest files commits are.states are.below are.kept are.made are.given
