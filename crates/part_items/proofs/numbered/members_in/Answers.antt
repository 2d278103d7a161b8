use Rattle.std.proofs.Common.{arith}
use Rattle.part_items.proofs.Places.{members_left}
use Rattle.part_items.proofs.numbered.members_in.Goals as goal

pub overflow_sub-result : goal.overflow_sub-result
overflow_sub-result c = (members_left c.args.bytes.now (c.in-Ok.count, c.in-Ok.rest.now) (λ i. (c.type_inv.bytes i).fits) c.in-Ok.ensures).0

pub returns-in-Ok : goal.returns-in-Ok
returns-in-Ok c = ((members_left c.args.bytes.now (c.in-Ok.count, c.in-Ok.rest.now) (λ i. (c.type_inv.bytes i).fits) c.in-Ok.ensures).1, omega arith)
