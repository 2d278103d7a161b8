-- The nodes' first stops, one node after another.
use Rattle.std.proofs.Common.{◌≡◌, max, arith, sym, ◌∙◌}
use Rattle.std.proofs.lemmas.Bool.Decides.{nat_tests}
use Rattle.move_plan.proofs.Stopping.{begins, goes_on, ends}
use Rattle.move_plan.proofs.plans.all_stopped_at.Goals as goal

pub loop-node-init : goal.loop-node-init
loop-node-init c = begins c.args.stops.now (sym c.if-is_empty.false ∙ c.is_empty.ensures)

pub returns-in-None : goal.returns-in-None
returns-in-None c = sym (ends c.loop-node.node c.args.nodes c.args.stops.now (omega arith) (sym c.first_stop.ensures ∙ c.in-None.is))

pub loop-node-preserved : goal.loop-node-preserved
loop-node-preserved c =
    let greater : c.max-last.result ≡ max c.loop-node.last c.in-Some.place = grind (arith, nat_tests) in
    rw greater (goes_on c.loop-node.node c.loop-node.last c.in-Some.place c.args.stops.now c.loop-node.invariant (sym c.first_stop.ensures ∙ c.in-Some.is))
