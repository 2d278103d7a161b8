use Rattle.many_logs.proofs.Orders.{any_order_so_far}
use Rattle.many_logs.proofs.laws.any_order_so_far.Goals as goal

pub returns : goal.returns
returns c = any_order_so_far
