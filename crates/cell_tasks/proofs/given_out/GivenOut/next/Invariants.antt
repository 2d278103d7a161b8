use Rattle.std.proofs.Common.{is_some, option_map}
use Rattle.dura_value.specs.Views.{id_of}
use Rattle.shared_maps.specs.Maps.{by_task}
use Rattle.cell_tasks.specs.Tasks.{is_out}
use Rattle.cell_tasks.proofs.Looking.{AllBefore}
use Rattle.shared_maps.proofs.Passing.{count_at}
use Rattle.cell_tasks.proofs.Passing.{is_past}
use Rattle.cell_tasks.proofs.given_out.GivenOut.next.Given as goal

-- what is there up to the last one is out
abbrev pub invariant-loop-id : goal.invariant-loop-id
invariant-loop-id g l = AllBefore (λ id task. is_some (by_task l.pending id task)) (is_out l.self) (option_map (λ task. (id_of task.0.now, task.1)) l.last)

abbrev pub decreases-loop-id : goal.decreases-loop-id
decreases-loop-id g l = count_at (is_past (option_map (λ task. (id_of task.0.now, task.1)) l.last)) l.self.tasks
