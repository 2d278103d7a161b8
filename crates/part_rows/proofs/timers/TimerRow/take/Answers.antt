use Rattle.std.proofs.Common.{◌∙◌, ap, sym}
use Rattle.dura_value.specs.Views.{id_of}
use Rattle.shared_maps.specs.Maps.{by_time}
use Rattle.part_rows.specs.Timers.{timer_if, timers_in, is_at}
use Rattle.part_rows.proofs.Orders.{takes, put_same}
use Rattle.part_rows.proofs.timers.TimerRow.take.Goals as goal

pub returns-in_default-clause-order : goal.returns-in_default-clause-order
returns-in_default-clause-order c due id task =
    let same = c.in_ok-due.ensures.taken ∙ put_same (timers_in c.args.self.now) (id_of c.args.id.now) c.args.task _ (sym c.in_ok-due.ensures.value ∙ c.in_default.is) in
    c.requires due id task ∙ sym (ap (λ f. timer_if (is_at (f id task) due) due id task) same)

pub returns-clause-order : goal.returns-clause-order
returns-clause-order c due id task =
    takes (timers_in c.args.self.now) (by_time c.args.self.now.order) (by_time c.remove.new.self) c.in-Some.due (id_of c.args.id.now) c.args.task
    (sym c.in_ok-due.ensures.value ∙ c.in-Some.is) c.requires c.in_ok-remove.ensures.removed due id task
    ∙ sym (ap (λ f. timer_if (is_at (f id task) due) due id task) c.in_ok-due.ensures.taken)
