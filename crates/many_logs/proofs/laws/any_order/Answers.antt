use Rattle.many_logs.proofs.Orders.{any_order}
use Rattle.many_logs.proofs.laws.any_order.Goals as goal

pub returns : goal.returns
returns c = any_order
