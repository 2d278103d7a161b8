use Rattle.std.proofs.Common.{◌∙◌, sym, subst}
use Rattle.spec_cell.specs.Views.{CellView, HasFacts}
use Rattle.spec_cell.proofs.CellFacts.{facts_in}
use Rattle.spec_cell.proofs.cell.Cell.is_going.Goals as goal

pub returns-clause-facts : goal.returns-clause-facts
returns-clause-facts g c = λ going.
    let inside = c.self.inside in
    let number = g.S.Mine.number inside.seat in
    let slot = g.S.Mine.slot inside.seat in
    subst (λ (v : CellView). HasFacts g.S.Mine.flows g.S.Mine.count (g.S.Mine.begin v.number) v) c.self.view_is
    (facts_in g.S.Mine.flows g.S.Mine.count (g.S.Mine.begin number) number slot inside.now inside.out inside.owner inside.round inside.live c.self.invariant (sym c.is_some.ensures ∙ going))
