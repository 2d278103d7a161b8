use Rattle.std.proofs.Common.{◌∙◌, OnOk, sym, subst}
use Rattle.engine_rounds.proofs.Opens.{ok_holds}
use Rattle.round_steps.proofs.Goes.{cells_serve}
use Rattle.world_steps.specs.Cells.{AllJoined}
use Rattle.engine_rounds.proofs.pumping.gather.Goals as goal

pub returns-in-Ok-clause-serving : goal.returns-in-Ok-clause-serving
returns-in-Ok-clause-serving g c =
    let rules = g.M.Picked.rules in
    let cells = c.run_all_tasks.new.cells.items in
    let brought = c.bring_all.ensures in
    let run = c.run_all_tasks.ensures in
    cells_serve g.M.Picked.origin rules c.serve_all.new.store c.serve_all.new.cells.items cells c.serve_all.new.port c.in_ok-serve_all.ensures.serving (run.many ∙ brought.many)
    (λ s all. subst (λ r. OnOk r (AllJoined rules s cells)) c.in-Ok.is (run.joined s (ok_holds c.bring_all.result (AllJoined rules s c.bring_all.new.cells.items) (sym c.if-is_err.ensures.value) (brought.joined s all))))
