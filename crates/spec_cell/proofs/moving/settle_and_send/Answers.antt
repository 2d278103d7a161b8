use Rattle.std.proofs.Common.{sym, subst}
use Rattle.cell_tasks.specs.Tasks.{IsAhead}
use Rattle.cell_tasks.specs.declared.given_out.GivenOut.{GivenOut}
use Rattle.spec_cell.proofs.moving.settle_and_send.Goals as goal

pub returns-clause-anew : goal.returns-clause-anew
returns-clause-anew c = λ there. subst (λ (given : GivenOut). IsAhead given there) (sym c.in_ok-next.ensures.given) (c.in_ok-forgotten.ensures.anew there)
