use Rattle.std.proofs.Common.{take}
use Rattle.std.specs.List.{All}
use Rattle.rest_check.specs.Rest.{IsNextAwaitedAt}
use Rattle.rest_check.proofs.resting.are_awaited.Given as goal

-- what comes next of the clients so far is
abbrev pub invariant-clients : goal.invariant-clients
invariant-clients g l = All (IsNextAwaitedAt g.M.Picked.rules l.cells l.port) (take l.client-index l.clients)
