use Rattle.std.proofs.Common.{OnOk, subst}
use Rattle.cell_frames.specs.Joined.{view_of}
use Rattle.round_steps.proofs.Goes.{serves_on}
use Rattle.world_steps.specs.Cells.{AllJoined}
use Rattle.round_steps.proofs.clients.serve_client.Goals as goal

pub returns-in-Ok-clause-serving : goal.returns-in-Ok-clause-serving
returns-in-Ok-clause-serving g c =
    let rules = g.M.Picked.rules in
    let store = c.tell.new.store in
    let cells = c.ask.new.cells.items in
    let h = c.ask.ensures in
    let serving = c.in_ok-tell.ensures.serving in
    serves_on g.M.Picked.origin rules store c.args.cells.now.items cells c.tell.new.port serving h.many
    (subst (λ r. OnOk r (AllJoined rules (view_of store) cells)) c.in-Ok.is (h.joined (view_of store) serving.said serving.running.joined))
