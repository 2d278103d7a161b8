use Rattle.dura_value.specs.Views.{id_of}
use Rattle.part_steps.specs.States.{state_of}
use Rattle.part_steps.proofs.Looking.{is_pending_somewhere, is_due_somewhere}
use Rattle.part_steps.proofs.state.PartState.is_quiet.Goals as goal

pub returns-in-Some-pending_task-clause-stirs : goal.returns-in-Some-pending_task-clause-stirs
returns-in-Some-pending_task-clause-stirs c = λ _. is_pending_somewhere (state_of c.args.self.now) (id_of c.in-Some-pending_task.field-0.0.now) c.in-Some-pending_task.field-0.1 c.in-Some-pending_task.ensures.there

pub returns-in-Some-next_timer-clause-stirs : goal.returns-in-Some-next_timer-clause-stirs
returns-in-Some-next_timer-clause-stirs c = λ _. is_due_somewhere (state_of c.args.self.now) c.in-Some-next_timer.field-0 c.in-Some-next_timer.ensures.next
