use Rattle.std.proofs.Common.{subst}
use Rattle.flow_machine.specs.Views.{machine_of}
use Rattle.flow_replay.specs.Moving.{Takes}
use Rattle.flow_replay.proofs.Taken.{went_on, blocked}
use Rattle.flow_replay.proofs.going.step_running.Goals as goal

pub returns-in_ok-plan : goal.returns-in_ok-plan
returns-in_ok-plan c =
    let taken = subst (λ o. Takes (machine_of c.args.machine.now) (machine_of c.take_next.new.machine) o) c.in-Some.is c.in_ok-todo.ensures in
    blocked c.in_ok-went.went c.args.made.now c.step_todo.new.made c.step_todo.new.self c.plan.new.self (machine_of c.args.machine.now) (machine_of c.take_next.new.machine) c.in-Some.todo c.if-not-went.true taken c.in_ok-went.ensures c.in_ok-plan.ensures

pub returns-else-not-went : goal.returns-else-not-went
returns-else-not-went c =
    let taken = subst (λ o. Takes (machine_of c.args.machine.now) (machine_of c.take_next.new.machine) o) c.in-Some.is c.in_ok-todo.ensures in
    went_on c.in_ok-went.went c.args.made.now c.step_todo.new.made c.step_todo.new.self (machine_of c.args.machine.now) (machine_of c.take_next.new.machine) c.in-Some.todo c.if-not-went.false taken c.in_ok-went.ensures
