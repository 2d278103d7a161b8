use Rattle.many_logs.proofs.OrdersStand.{placed_in_order}
use Rattle.many_logs.proofs.laws.placed_in_order.Goals as goal

pub returns : goal.returns
returns c flows count logs = let t = placed_in_order flows count logs in (t.run, t.all, t.below, t.left)
