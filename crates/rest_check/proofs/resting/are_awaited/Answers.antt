use Rattle.std.proofs.Common.{◌∙◌, refl, sym}
use Rattle.rest_check.proofs.AtRest.{all_at, all_next, all_none, all_whole, home_of_all}
use Rattle.rest_check.specs.Rest.{IsNextAwaitedAt}
use Rattle.rest_check.proofs.resting.are_awaited.Goals as goal

pub clients-init : goal.clients-init
clients-init g c = all_none (IsNextAwaitedAt g.M.Picked.rules c.args.cells.now c.args.port.now)

pub clients-preserved : goal.clients-preserved
clients-preserved g c =
    all_next (IsNextAwaitedAt g.M.Picked.rules c.args.cells.now c.args.port.now) c.args.clients.now c.clients.client-index c.client-item.result c.clients-test.true c.client-item.is c.clients.invariant
    (λ one there. (c.in_ok-is_next_awaited.ensures one there).0 c.if-not-branch.false)

pub returns : goal.returns
returns g c = (λ yes. all_whole (IsNextAwaitedAt g.M.Picked.rules c.args.cells.now c.args.port.now) c.args.clients.now c.clients.client-index c.clients-test.false c.clients.invariant, λ all. refl)

pub returns-then-not-branch : goal.returns-then-not-branch
returns-then-not-branch g c =
    let rules = g.M.Picked.rules in
    let cells = c.args.cells.now in
    let it = home_of_all rules cells c.client-item.result c.requires.some c.requires.many in (
      λ no. absurd (cc no),
      λ all. sym c.if-not-branch.true ∙ (c.in_ok-is_next_awaited.ensures it.0 it.1).1
          (all_at (IsNextAwaitedAt rules cells c.args.port.now) c.args.clients.now c.clients.client-index c.client-item.result c.clients-test.true c.client-item.is all it.0 it.1),
    )
