use Rattle.cell_tasks.specs.Tasks.{is_out}
use Rattle.spec_cell.proofs.TasksOver.{ended_next}
use Rattle.spec_cell.proofs.tasks.forget_all_ended.Goals as goal

pub loop-item-preserved : goal.loop-item-preserved
loop-item-preserved c =
    ended_next (is_out c.args.given.now) (is_out c.loop-item.given) (is_out c.forget_ended.new.given) c.args.items.now c.loop-item.item-index c.item-item.result c.loop-item-test.true c.item-item.is c.loop-item.invariant c.in_ok-forget_ended.ensures
