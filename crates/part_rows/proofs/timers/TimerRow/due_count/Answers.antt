use Rattle.std.proofs.Common.{ℕ, ◌+◌, ◌-◌, ◌^◌, min, Some, option_map, sym, subst}
use Rattle.dura_value.specs.Ids.{Id}
use Rattle.dura_value.specs.Views.{id_of}
use Rattle.part_rows.specs.Timers.{timers_in}
use Rattle.part_rows.proofs.Counting.{AreCounted, none_counted, next_counted, fewer_left, passed_are_due, all_are_due}
use Rattle.part_rows.proofs.timers.TimerRow.due_count.Goals as goal

pub loop-due-init : goal.loop-due-init
loop-due-init c = none_counted (timers_in c.args.self.now) c.args.now

pub loop-due-preserved : goal.loop-due-preserved
loop-due-preserved c =
    let last = option_map (λ at. (at.0, id_of at.1.now, at.2)) c.loop-due.last in
    let at : ℕ × Id × ℕ = (c.in-Some.due, id_of c.in-Some.id.now, c.in-Some.task) in
    subst (AreCounted (timers_in c.args.self.now) c.args.now (Some at)) (sym c.saturating_add-count.ensures)
    (next_counted c.args.self.now last at c.args.now c.loop-due.count c.requires c.in-Some.ensures.next c.if-due-now.false c.loop-due.invariant)

pub loop-due-smaller : goal.loop-due-smaller
loop-due-smaller c =
    let last = option_map (λ at. (at.0, id_of at.1.now, at.2)) c.loop-due.last in
    fewer_left c.args.self.now last (c.in-Some.due, id_of c.in-Some.id.now, c.in-Some.task) c.in-Some.ensures.next

pub returns-then-due-now : goal.returns-then-due-now
returns-then-due-now c =
    let last = option_map (λ at. (at.0, id_of at.1.now, at.2)) c.loop-due.last in
    let at : ℕ × Id × ℕ = (c.in-Some.due, id_of c.in-Some.id.now, c.in-Some.task) in
    let was = c.loop-due.invariant in
    (was.0, passed_are_due c.args.self.now c.requires c.args.now last at c.in-Some.ensures.next was.0 c.if-due-now.true was.1, was.2)

pub returns : goal.returns
returns c =
    let last = option_map (λ at. (at.0, id_of at.1.now, at.2)) c.loop-due.last in
    let was = c.loop-due.invariant in
    (was.0, all_are_due c.args.self.now c.requires c.args.now last was.0 c.in_default.ensures.none was.1, was.2)
