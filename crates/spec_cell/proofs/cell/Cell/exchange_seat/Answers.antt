use Rattle.std.proofs.Common.{◌≡◌, ◌∙◌, sym, ap}
use Rattle.spec_cell.specs.Seats.{Slot}
use Rattle.spec_cell.specs.Views.{CellView}
use Rattle.spec_cell.proofs.CellFacts.{view, exchanged, exchanged_view}
use Rattle.spec_cell.proofs.cell.Cell.exchange_seat.Goals as goal

pub invariant_of-self : goal.invariant_of-self
invariant_of-self g c =
    let inside = c.self.inside in
    let number = g.S.Mine.number inside.seat in
    let slot = g.S.Mine.slot inside.seat in
    let its = c.replace.new.dest in
    let number_is : g.S.Mine.number its ≡ number = ap g.S.Mine.number c.replace.ensures.after ∙ c.requires.number ∙ ap (λ (v : CellView). v.number) (sym c.self.view_is) in
    let mine_is : (g.S.Mine.slot its).mine ≡ slot.mine =
    ap (λ (s : _). (g.S.Mine.slot s).mine) c.replace.ensures.after ∙ ap (λ (s : Slot). s.mine) c.requires.slot ∙ ap (λ (v : CellView). v.slot.mine) (sym c.self.view_is) in
    exchanged g.S.Mine.flows g.S.Mine.count g.S.Mine.begin number (g.S.Mine.number its) slot.mine (g.S.Mine.slot its).mine inside.now inside.out inside.live number_is mine_is c.self.invariant

pub returns-clause-taken : goal.returns-clause-taken
returns-clause-taken g c =
    let inside = c.self.inside in
    let number = g.S.Mine.number inside.seat in
    let slot = g.S.Mine.slot inside.seat in
    let its = c.replace.new.dest in
    let number_is : g.S.Mine.number its ≡ number = ap g.S.Mine.number c.replace.ensures.after ∙ c.requires.number ∙ ap (λ (v : CellView). v.number) (sym c.self.view_is) in
    ap (λ (s : Slot). view (g.S.Mine.number its) s inside.live inside.now inside.out inside.owner inside.round) (ap g.S.Mine.slot c.replace.ensures.after)
    ∙ exchanged_view number (g.S.Mine.number its) slot (g.S.Mine.slot c.args.other) inside.now inside.out inside.owner inside.round inside.live c.args.self.now c.self.view_is number_is
