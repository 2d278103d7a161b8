use Rattle.std.proofs.Common.{List, sym, subst}
use Rattle.client_port.specs.Ports.{Queue}
use Rattle.round_steps.proofs.Goes.{cells_serve}
use Rattle.hub_store.specs.Changes.{trail_in}
use Rattle.round_steps.specs.Labels.{IsCounted}
use Rattle.round_steps.specs.Serving.{IsServing}
use Rattle.round_steps.specs.declared.course.Seen.{Seen}
use Rattle.round_steps.proofs.rounds.step_and_commit.Goals as goal

pub commit_all-requires : goal.commit_all-requires
commit_all-requires g c =
    let o = g.M.Picked.origin in
    let rules = g.M.Picked.rules in
    let store = c.args.store.now in
    let h = c.in_ok-turned.ensures in
    let cells = c.step_all.new.cells.items in
    let serving = cells_serve o rules store c.args.cells.now.items cells c.args.course.now.port c.requires.serving h.many h.joined in
    record { serving = subst (λ (queues : List Queue). IsServing o rules store cells queues) (sym h.port) serving; counted = subst (λ (seen : Seen). IsCounted seen (trail_in store.logs)) (sym h.seen) c.requires.counted }
