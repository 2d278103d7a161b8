use Rattle.std.proofs.Common.{◌≡◌, ◌∙◌, ℕ, ap, subst}
use Rattle.std.specs.Prelude.{max}
use Rattle.spec_cell.specs.Views.{CellView, CountsDue}
use Rattle.spec_cell.proofs.CellFacts.{sound_ahead, counts_due, counts_none}
use Rattle.spec_cell.proofs.cell.Cell.fire.Goals as goal

pub due_in-requires : goal.due_in-requires
due_in-requires g c =
    let inside = c.self.inside in
    sound_ahead g.S.Mine.flows g.S.Mine.count (g.S.Mine.begin (g.S.Mine.number inside.seat)) (g.S.Mine.slot inside.seat).mine inside.now inside.out inside.live c.self.invariant

pub returns-clause-due : goal.returns-clause-due
returns-clause-due g c = λ going.
    let inside = c.self.inside in
    let number = g.S.Mine.number inside.seat in
    let slot = g.S.Mine.slot inside.seat in
    let later : c.max-self-inside.result ≡ max c.args.self.now.now c.args.now = c.max-self-inside.ensures ∙ ap (λ (v : CellView). max v.now c.args.now) c.self.view_is in
    subst (λ (n : ℕ). CountsDue g.S.Mine.flows g.S.Mine.count (g.S.Mine.begin c.args.self.now.number) c.args.self.now n c.due_in.result) later
    (counts_due g.S.Mine.flows g.S.Mine.count g.S.Mine.begin number slot inside.now inside.out inside.owner inside.round inside.live c.args.self.now _ c.due_in.result c.self.invariant c.self.view_is c.due_in.ensures.due going)

pub returns-clause-none : goal.returns-clause-none
returns-clause-none g c = λ gone.
    let inside = c.self.inside in
    counts_none (g.S.Mine.number inside.seat) (g.S.Mine.slot inside.seat) inside.now inside.out inside.owner inside.round inside.live c.args.self.now c.due_in.result c.self.view_is c.due_in.ensures.none gone
