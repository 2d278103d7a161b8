use Rattle.std.proofs.Common.{◌∙◌, sym}
use Rattle.part_rows.proofs.Orders.{first_due, leads, none_due, none_there}
use Rattle.part_rows.proofs.timers.TimerRow.due.Goals as goal

pub returns-then-first-now-clause-first : goal.returns-then-first-now-clause-first
returns-then-first-now-clause-first c =
    let row = c.args.self.now in
    let first = c.in-Some.first.now in
    first_due row first (leads row first c.requires c.in-Some.ensures.first) c.args.now c.if-first-now.true

pub returns-else-first-now-clause-none : goal.returns-else-first-now-clause-none
returns-else-first-now-clause-none c =
    let row = c.args.self.now in
    let first = c.in-Some.first.now in
    none_due row first (leads row first c.requires c.in-Some.ensures.first) c.args.now c.if-first-now.false

pub returns-in-None-clause-none : goal.returns-in-None-clause-none
returns-in-None-clause-none c due id task there = absurd (cc (sym there ∙ none_there c.args.self.now c.requires c.in-None.ensures.none id task))
