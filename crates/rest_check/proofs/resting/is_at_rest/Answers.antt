use Rattle.rest_check.proofs.AtRest.{at_rest, awaited_found, rest_found}
use Rattle.rest_check.proofs.resting.is_at_rest.Goals as goal

pub returns-then-resting : goal.returns-then-resting
returns-then-resting g c =
    let o = g.M.Picked.origin in
    let rules = g.M.Picked.rules in
    let found = c.in_ok-resting.ensures in
    let waits = c.in_ok-awaited.ensures in (
      λ yes. at_rest o rules c.args.store.now c.args.cells.now c.requires.running c.args.port.now c.args.clients.now c.requires.clients found.0 found.1 (found.2.0 c.if-resting.true) (waits.0 yes),
      λ rest. waits.1 (awaited_found o rules c.args.store.now c.args.cells.now c.requires.running c.args.port.now c.args.clients.now c.requires.clients rest),
    )

pub returns-else-resting : goal.returns-else-resting
returns-else-resting g c =
    let found = c.in_ok-resting.ensures in (
      λ yes. absurd (cc (yes, c.if-resting.false)),
      λ rest. found.2.1 (rest_found g.M.Picked.origin g.M.Picked.rules c.args.store.now c.args.cells.now c.requires.running c.args.port.now found.0 found.1 rest),
    )
