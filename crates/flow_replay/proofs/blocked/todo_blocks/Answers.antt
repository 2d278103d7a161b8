use Rattle.std.proofs.Common.{ap, sym, subst}
use Rattle.flow_machine.specs.Views.{machine_of, todos_of}
use Rattle.flow_machine.specs.Steps.{todo_step}
use Rattle.flow_replay.specs.Moving.{Blocks}
use Rattle.flow_replay.proofs.blocked.todo_blocks.Goals as goal

pub returns-in-Await : goal.returns-in-Await
returns-in-Await c =
    subst (λ ts. Blocks c.call_blocks.result (λ was. todo_step was (machine_of c.args.machine.now) ts)) (sym (ap todos_of c.in-Await.is)) (c.call_blocks.ensures c.in-Await.field-0.now)
