use Rattle.std.proofs.Common.{None, is_some}
use Rattle.dura_value.specs.Views.{id_of}
use Rattle.shared_maps.specs.Maps.{by_task}
use Rattle.cell_tasks.proofs.Changing.{changed, on_err}
use Rattle.cell_tasks.proofs.given_out.GivenOut.forget.Goals as goal

pub returns-in_err-take-clause-same : goal.returns-in_err-take-clause-same
returns-in_err-take-clause-same c = on_err c.from_residual.result (λ i id task. is_some (c.in_err-take.ensures.same i id task))

pub returns-clause-forgotten : goal.returns-clause-forgotten
returns-clause-forgotten c = changed (by_task c.args.self.now.tasks) (by_task c.take.new.self) (id_of c.args.id.now) c.args.task None c.in_ok-take.ensures.taken
