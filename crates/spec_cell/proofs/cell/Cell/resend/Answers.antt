use Rattle.std.proofs.Common.{◌≡◌, ◌∙◌, IfOk, Option, Some, sym, ap, subst}
use Rattle.part_steps.specs.States.{IsSound, state_of, count_of}
use Rattle.part_steps.specs.declared.state.PartState.{PartState}
use Rattle.cell_steps.specs.Sent.{SendsAgain}
use Rattle.spec_cell.specs.Views.{Stands, StandsIn}
use Rattle.cell_steps.specs.declared.live.Live.{Live}
use Rattle.spec_cell.proofs.CellFacts.{view, may_turn, many}
use Rattle.spec_cell.proofs.SentByEntries.{resends}
use Rattle.spec_cell.proofs.cell.Cell.resend.Goals as goal

pub packets_again-requires-clause-ahead : goal.packets_again-requires-clause-ahead
packets_again-requires-clause-ahead g c =
    let flows = g.S.Mine.flows in
    let count = g.S.Mine.count in
    let inside = c.self.inside in
    let number = g.S.Mine.number inside.seat in
    let slot = g.S.Mine.slot inside.seat in
    let live = c.in-Some.live in
    let stands : Stands flows count (g.S.Mine.begin number) slot.mine inside.now inside.out live = subst (λ (o : Option Live). StandsIn flows count (g.S.Mine.begin number) slot.mine inside.now inside.out o) c.in-Some.is c.self.invariant in
    subst IsSound (sym c.ahead.ensures) (may_turn flows count (g.S.Mine.begin number) number slot inside.now inside.out inside.owner inside.round live stands).sound

pub packets_again-requires-clause-same : goal.packets_again-requires-clause-same
packets_again-requires-clause-same g c =
    let flows = g.S.Mine.flows in
    let count = g.S.Mine.count in
    let inside = c.self.inside in
    let number = g.S.Mine.number inside.seat in
    let slot = g.S.Mine.slot inside.seat in
    let live = c.in-Some.live in
    let stands : Stands flows count (g.S.Mine.begin number) slot.mine inside.now inside.out live = subst (λ (o : Option Live). StandsIn flows count (g.S.Mine.begin number) slot.mine inside.now inside.out o) c.in-Some.is c.self.invariant in
    ap count_of c.ahead.ensures ∙ many flows count (g.S.Mine.begin number) number slot inside.now inside.out inside.owner inside.round live stands ∙ sym stands.partitions

pub returns-in-Some : goal.returns-in-Some
returns-in-Some g c =
    let flows = g.S.Mine.flows in
    let count = g.S.Mine.count in
    let inside = c.self.inside in
    let number = g.S.Mine.number inside.seat in
    let slot = g.S.Mine.slot inside.seat in
    let live = c.in-Some.live in
    let live_is : inside.live ≡ Some live = c.in-Some.is in
    let stands : Stands flows count (g.S.Mine.begin number) slot.mine inside.now inside.out live = subst (λ (o : Option Live). StandsIn flows count (g.S.Mine.begin number) slot.mine inside.now inside.out o) live_is c.self.invariant in
    let view_is : view number slot (Some live) inside.now inside.out inside.owner inside.round ≡ c.args.self.now =
    ap (λ (o : Option Live). view number slot o inside.now inside.out inside.owner inside.round) (sym live_is) ∙ c.self.view_is in
    resends flows count g.S.Mine.begin number slot inside.now inside.out inside.owner inside.round live stands c.args.self.now view_is c.args.mode c.packets_again.result
    (subst (λ (s : PartState). IfOk c.packets_again.result (λ packets. SendsAgain c.args.mode (count_of live.base) (state_of live.base) (state_of s) packets.items)) c.ahead.ensures c.packets_again.ensures)
