use Rattle.std.proofs.Common.{OnOk, subst}
use Rattle.round_steps.proofs.Goes.{cells_serve}
use Rattle.world_steps.specs.Cells.{AllJoined}
use Rattle.round_steps.proofs.rounds.round.Goals as goal

pub returns-in-Ok-clause-serving : goal.returns-in-Ok-clause-serving
returns-in-Ok-clause-serving g c =
    let rules = g.M.Picked.rules in
    let cells = c.run_all_tasks.new.cells.items in
    let h = c.run_all_tasks.ensures in
    cells_serve g.M.Picked.origin rules c.make_and_commit.new.store c.make_and_commit.new.cells.items cells c.make_and_commit.new.course.port c.in_ok-make_and_commit.ensures.serving h.many
    (λ s all. subst (λ r. OnOk r (AllJoined rules s cells)) c.in-Ok.is (h.joined s all))
