use Rattle.part_rows.proofs.Orders.{leads, next_due, none_there}
use Rattle.part_rows.proofs.timers.TimerRow.next.Goals as goal

pub returns-in-Some-clause-next : goal.returns-in-Some-clause-next
returns-in-Some-clause-next c =
    let row = c.args.self.now in
    let first = c.in-Some.first.now in
    next_due row first (leads row first c.requires c.in-Some.ensures.first)

pub returns-in-None-clause-none : goal.returns-in-None-clause-none
returns-in-None-clause-none c = none_there c.args.self.now c.requires c.in-None.ensures.none
