use Rattle.std.proofs.Common.{◌≡◌, ◌∙◌, ap, sym, None, Some}
use Rattle.dura_value.specs.Views.{id_of}
use Rattle.dura_value.specs.ById.{at_number}
use Rattle.shared_maps.specs.Maps.{at_time, by_time}
use Rattle.part_rows.specs.Timers.{timer_if, timer_of, timers_in, is_at}
use Rattle.part_rows.proofs.Orders.{puts, put_twice, at_itself, timer_again}
use Rattle.part_rows.proofs.timers.TimerRow.put.Goals as goal

pub returns-clause-put : goal.returns-clause-put
returns-clause-put c =
    c.in_ok-put-2.ensures.put ∙ ap (λ f. at_number f (id_of c.args.id) c.args.task (Some c.args.due)) c.in_ok-take.ensures.taken
    ∙ put_twice (timers_in c.args.self.now) (id_of c.args.id) c.args.task None (Some c.args.due)

pub returns-clause-order : goal.returns-clause-order
returns-clause-order c due other task =
    let id = id_of c.args.id in
    let was = c.take.new.self in
    let timer : c.in_ok-timer.timer ≡ timer_of c.args.due id c.args.task = c.in_ok-timer.ensures ∙ sym (timer_again (record { due = c.args.due; id = c.args.id; task = c.args.task })) in
    let changes = c.in_ok-put.ensures.put ∙ ap (λ i. at_time (by_time was.order) c.args.due (id_of i) c.args.task (Some c.in_ok-timer.timer)) c.in_ok-copy_id.ensures
    ∙ ap (λ k. at_time (by_time was.order) c.args.due id c.args.task (Some k)) timer in
    let absent = ap (λ f. f id c.args.task) c.in_ok-take.ensures.taken ∙ at_itself (timers_in c.args.self.now) id c.args.task None in
    puts (timers_in was) (by_time was.order) (by_time c.put.new.self) c.args.due id c.args.task absent c.in_ok-take.ensures.order changes due other task
    ∙ sym (ap (λ f. timer_if (is_at (f other task) due) due other task) c.in_ok-put-2.ensures.put)
