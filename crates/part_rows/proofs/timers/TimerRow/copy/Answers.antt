use Rattle.std.proofs.Common.{◌∙◌, ap, sym}
use Rattle.part_rows.specs.Timers.{timer_if, is_at}
use Rattle.part_rows.proofs.timers.TimerRow.copy.Goals as goal

pub returns-clause-order : goal.returns-clause-order
returns-clause-order c due id task =
    ap (λ f. f due id task) c.in_ok-order.ensures ∙ c.requires due id task ∙ sym (ap (λ f. timer_if (is_at (f id task) due) due id task) c.in_ok-stamps.ensures)
