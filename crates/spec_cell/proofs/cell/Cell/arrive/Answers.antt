use Rattle.std.proofs.Common.{◌≡◌, ◌∙◌, ◌+◌, ℕ, List, Option, Some, sym, ap, ap₂, subst, arith}
use Rattle.cell_waits.specs.Waits.{Waiting, wait_of}
use Rattle.cell_waits.specs.declared.wait.Wait.{Wait}
use Rattle.cell_waits.specs.declared.wait.Wait.TheVariants as waiting
use Rattle.part_steps.specs.States.{state_of}
use Rattle.part_steps.specs.declared.state.PartState.{PartState}
use Rattle.cell_steps.specs.Ahead.{ahead_of}
use Rattle.spec_cell.specs.Views.{Stands, StandsIn}
use Rattle.cell_steps.specs.declared.live.Live.{Live}
use Rattle.spec_cell.proofs.CellFacts.{view, ahead_of_self, same_view, waits_are, queued_view, queued_stands}
use Rattle.log_items.specs.declared.items.Item.TheVariants.{Got}
use Rattle.spec_cell.specs.Comes.{next_from}
use Rattle.spec_cell.proofs.cell.Cell.arrive.Goals as goal

pub returns-then-packet-next-clause-arrives : goal.returns-then-packet-next-clause-arrives
returns-then-packet-next-clause-arrives g c =
    let flows = g.S.Mine.flows in
    let count = g.S.Mine.count in
    let inside = c.self.inside in
    let number = g.S.Mine.number inside.seat in
    let slot = g.S.Mine.slot inside.seat in
    let live = c.in-Some.live in
    let live_is : inside.live ≡ Some live = sym c.take.ensures.value ∙ c.in-Some.is in
    let stands : Stands flows count (g.S.Mine.begin number) slot.mine inside.now inside.out live = subst (λ (o : Option Live). StandsIn flows count (g.S.Mine.begin number) slot.mine inside.now inside.out o) live_is c.self.invariant in
    let view_is : view number slot (Some live) inside.now inside.out inside.owner inside.round ≡ c.args.self.now =
    ap (λ (o : Option Live). view number slot o inside.now inside.out inside.owner inside.round) (sym live_is) ∙ c.self.view_is in
    let next : c.in-Some-checked_add.next ≡ next_from (state_of (ahead_of live)) c.args.self.now.waits c.args.packet.src =
    c.in-Some-checked_add.ensures.1 ∙ ap₂ (λ (a b : ℕ). a + b) (c.taken_in.ensures ∙ ap (λ (s : PartState). ((state_of s).inboxes c.args.packet.src).next) c.ahead.ensures) c.packets_of-waiting.ensures
    ∙ ap (λ (l : List Waiting). next_from (state_of (ahead_of live)) l c.args.packet.src) (waits_are flows count g.S.Mine.begin number slot inside.now inside.out inside.owner inside.round live stands c.args.self.now view_is) in
    (state_of (ahead_of live), ahead_of_self flows count g.S.Mine.begin number slot inside.now inside.out inside.owner inside.round live stands c.args.self.now view_is, (next, c.if-packet-next.true, same_view flows count g.S.Mine.begin number slot inside.now inside.out inside.owner inside.round live stands c.args.self.now view_is c.put.new.place c.put.ensures))

pub returns-then-next-packet-clause-arrives : goal.returns-then-next-packet-clause-arrives
returns-then-next-packet-clause-arrives g c =
    let flows = g.S.Mine.flows in
    let count = g.S.Mine.count in
    let inside = c.self.inside in
    let number = g.S.Mine.number inside.seat in
    let slot = g.S.Mine.slot inside.seat in
    let live = c.in-Some.live in
    let live_is : inside.live ≡ Some live = sym c.take.ensures.value ∙ c.in-Some.is in
    let stands : Stands flows count (g.S.Mine.begin number) slot.mine inside.now inside.out live = subst (λ (o : Option Live). StandsIn flows count (g.S.Mine.begin number) slot.mine inside.now inside.out o) live_is c.self.invariant in
    let view_is : view number slot (Some live) inside.now inside.out inside.owner inside.round ≡ c.args.self.now =
    ap (λ (o : Option Live). view number slot o inside.now inside.out inside.owner inside.round) (sym live_is) ∙ c.self.view_is in
    let next : c.in-Some-checked_add.next ≡ next_from (state_of (ahead_of live)) c.args.self.now.waits c.args.packet.src =
    c.in-Some-checked_add.ensures.1 ∙ ap₂ (λ (a b : ℕ). a + b) (c.taken_in.ensures ∙ ap (λ (s : PartState). ((state_of s).inboxes c.args.packet.src).next) c.ahead.ensures) c.packets_of-waiting.ensures
    ∙ ap (λ (l : List Waiting). next_from (state_of (ahead_of live)) l c.args.packet.src) (waits_are flows count g.S.Mine.begin number slot inside.now inside.out inside.owner inside.round live stands c.args.self.now view_is) in
    (state_of (ahead_of live), ahead_of_self flows count g.S.Mine.begin number slot inside.now inside.out inside.owner inside.round live stands c.args.self.now view_is, (next, c.if-next-packet.true, same_view flows count g.S.Mine.begin number slot inside.now inside.out inside.owner inside.round live stands c.args.self.now view_is c.put-then-next-packet.new.place c.put-then-next-packet.ensures))

pub invariant_of-self-2 : goal.invariant_of-self-2
invariant_of-self-2 g c =
    let flows = g.S.Mine.flows in
    let count = g.S.Mine.count in
    let inside = c.self.inside in
    let number = g.S.Mine.number inside.seat in
    let slot = g.S.Mine.slot inside.seat in
    let live = c.in-Some.live in
    let live_is : inside.live ≡ Some live = sym c.take.ensures.value ∙ c.in-Some.is in
    let stands : Stands flows count (g.S.Mine.begin number) slot.mine inside.now inside.out live = subst (λ (o : Option Live). StandsIn flows count (g.S.Mine.begin number) slot.mine inside.now inside.out o) live_is c.self.invariant in
    let view_is : view number slot (Some live) inside.now inside.out inside.owner inside.round ≡ c.args.self.now =
    ap (λ (o : Option Live). view number slot o inside.now inside.out inside.owner inside.round) (sym live_is) ∙ c.self.view_is in
    let w : Wait = waiting.Outside (Got c.args.packet.src c.args.packet.inc c.args.packet.pos c.args.packet.seq c.args.packet.message) in
    queued_stands flows count g.S.Mine.begin number slot inside.now inside.out inside.owner inside.round live stands c.args.self.now view_is c.in_ok-next.next c.put-2.new.place (wait_of w) c.put-2.ensures c.in_ok-next.ensures.base c.in_ok-next.ensures.steps c.in_ok-next.ensures.incarnation c.in_ok-next.ensures.given c.in_ok-next.ensures.waits c.in_ok-next.ensures.indexed tt

pub returns-clause-arrives : goal.returns-clause-arrives
returns-clause-arrives g c =
    let flows = g.S.Mine.flows in
    let count = g.S.Mine.count in
    let inside = c.self.inside in
    let number = g.S.Mine.number inside.seat in
    let slot = g.S.Mine.slot inside.seat in
    let live = c.in-Some.live in
    let live_is : inside.live ≡ Some live = sym c.take.ensures.value ∙ c.in-Some.is in
    let stands : Stands flows count (g.S.Mine.begin number) slot.mine inside.now inside.out live = subst (λ (o : Option Live). StandsIn flows count (g.S.Mine.begin number) slot.mine inside.now inside.out o) live_is c.self.invariant in
    let view_is : view number slot (Some live) inside.now inside.out inside.owner inside.round ≡ c.args.self.now =
    ap (λ (o : Option Live). view number slot o inside.now inside.out inside.owner inside.round) (sym live_is) ∙ c.self.view_is in
    let next : c.in-Some-checked_add.next ≡ next_from (state_of (ahead_of live)) c.args.self.now.waits c.args.packet.src =
    c.in-Some-checked_add.ensures.1 ∙ ap₂ (λ (a b : ℕ). a + b) (c.taken_in.ensures ∙ ap (λ (s : PartState). ((state_of s).inboxes c.args.packet.src).next) c.ahead.ensures) c.packets_of-waiting.ensures
    ∙ ap (λ (l : List Waiting). next_from (state_of (ahead_of live)) l c.args.packet.src) (waits_are flows count g.S.Mine.begin number slot inside.now inside.out inside.owner inside.round live stands c.args.self.now view_is) in
    let w : Wait = waiting.Outside (Got c.args.packet.src c.args.packet.inc c.args.packet.pos c.args.packet.seq c.args.packet.message) in
    let not_below = c.if-packet-next.false in
    let not_above = c.if-next-packet.false in
    let same : c.args.packet.seq ≡ c.in-Some-checked_add.next = omega (arith, not_below, not_above) in (
      state_of (ahead_of live),
      ahead_of_self flows count g.S.Mine.begin number slot inside.now inside.out inside.owner inside.round live stands c.args.self.now view_is,
      (same ∙ next, queued_view flows count g.S.Mine.begin number slot inside.now inside.out inside.owner inside.round live stands c.args.self.now view_is c.in_ok-next.next c.put-2.new.place (wait_of w) c.put-2.ensures c.in_ok-next.ensures.steps c.in_ok-next.ensures.incarnation c.in_ok-next.ensures.given c.in_ok-next.ensures.waits),
    )
