use Rattle.std.proofs.Common.{ap, arith, rules, ◌≤◌, ◌+◌}
use Rattle.dura_value.specs.Views.{id_of}
use Rattle.shared_maps.specs.Maps.{by_task}
use Rattle.shared_maps.proofs.Clears.{still_apart, gone_too}
use Rattle.shared_maps.proofs.task_map.TaskMap.clear.Goals as goal

pub loop-number-init : goal.loop-number-init
loop-number-init g c = record {
  within = omega arith;
  apart = λ other n off. ap (λ f. f other n) c.in_ok-left.ensures;
  gone = λ n below. absurd (omega (arith, below));
}

pub loop-number-preserved : goal.loop-number-preserved
loop-number-preserved g c =
    let id = id_of c.args.id.now in
    let was = by_task c.args.self.now in
    let now = by_task c.loop-number.left in
    let next = by_task c.remove.new.self in
    let fits : c.in-Some.number + 1 ≤ 4294967296 = search rules in
    record {
      within = fits;
      apart = still_apart id was now next c.loop-number.from c.in-Some.number c.in_ok-remove.ensures c.loop-number.invariant.apart;
      gone = gone_too id was now next c.loop-number.from c.in-Some.number c.in_ok-remove.ensures c.loop-number.invariant.gone c.in-Some.ensures.least;
    }
