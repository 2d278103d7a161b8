use Rattle.std.proofs.Common.{IfSome, subst}
use Rattle.dura_value.specs.Views.{id_of}
use Rattle.world_steps.specs.Comes.{IsAskedFor}
use Rattle.round_steps.proofs.tasks.run_next.Goals as goal

pub returns-clause-joined : goal.returns-clause-joined
returns-clause-joined g c = λ s all.
    let asked = subst (λ o. IfSome o (λ one. IsAskedFor g.M.Picked.rules c.args.part (id_of one.id) one.task c.take_task_at.new.cells.items)) c.in-Some.is (c.in_ok-task.ensures.asked s all) in
    c.in_ok-run_task.ensures.joined s asked (c.in_ok-task.ensures.joined s all)
