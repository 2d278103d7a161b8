use Rattle.std.proofs.Common.{◌≤◌, ◌+◌, arith, refl, rules}
use Rattle.dura_value.specs.Views.{id_of}
use Rattle.shared_maps.proofs.Clears.{all_cleared, gone_too, still_apart}
use Rattle.part_rows.specs.Timers.{timers_in}
use Rattle.part_rows.proofs.timers.TimerRow.drop_of.Goals as goal

pub loop-task-init : goal.loop-task-init
loop-task-init c = record { within = omega arith; order = c.requires; apart = λ other n off. refl; gone = λ n below. absurd (omega (arith, below)) }

pub loop-task-preserved : goal.loop-task-preserved
loop-task-preserved c =
    let id = id_of c.args.id.now in
    let was = timers_in c.args.self.now in
    let now = timers_in c.loop-task.self in
    let next = timers_in c.take.new.self in
    let fits : c.in-Some.task + 1 ≤ 4294967296 = search rules in
    record {
      within = fits;
      order = c.in_ok-take.ensures.order;
      apart = still_apart id was now next c.loop-task.from c.in-Some.task c.in_ok-take.ensures.taken c.loop-task.invariant.apart;
      gone = gone_too id was now next c.loop-task.from c.in-Some.task c.in_ok-take.ensures.taken c.loop-task.invariant.gone c.in-Some.ensures.least;
    }

pub returns-clause-dropped : goal.returns-clause-dropped
returns-clause-dropped c =
    all_cleared (id_of c.args.id.now) (timers_in c.args.self.now) (timers_in c.loop-task.self) c.loop-task.from c.loop-task.invariant.apart c.loop-task.invariant.gone c.in_default.ensures.none
