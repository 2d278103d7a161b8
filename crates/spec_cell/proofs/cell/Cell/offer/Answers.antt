use Rattle.std.proofs.Common.{◌≡◌, ◌∙◌, List, Option, Some, None, sym, ap, subst}
use Rattle.cell_waits.specs.Waits.{Waiting, wait_of, waits_of}
use Rattle.cell_waits.specs.declared.wait.Wait.TheVariants as waiting
use Rattle.part_steps.specs.States.{state_of}
use Rattle.cell_steps.specs.Ahead.{ahead_of}
use Rattle.spec_cell.specs.Views.{Stands, StandsIn}
use Rattle.cell_steps.specs.declared.live.Live.{Live}
use Rattle.spec_cell.proofs.CellFacts.{view, ahead_of_self, base_of_self, same_view, waits_are, queued_view, queued_stands}
use Rattle.dura_value.specs.Views.{message_of}
use Rattle.log_items.specs.declared.items.Item.TheVariants.{Took}
use Rattle.spec_cell.specs.Comes.{IsKnownAs}
use Rattle.spec_cell.specs.declared.coming.Offered.{Offered}
use Rattle.spec_cell.proofs.Offering.{known_offer}
use Rattle.spec_cell.proofs.cell.Cell.offer.Goals as goal

pub returns-in-Some-known-clause-offers : goal.returns-in-Some-known-clause-offers
returns-in-Some-known-clause-offers g c =
    let flows = g.S.Mine.flows in
    let count = g.S.Mine.count in
    let inside = c.self.inside in
    let number = g.S.Mine.number inside.seat in
    let slot = g.S.Mine.slot inside.seat in
    let live = c.in-Some.live in
    let live_is : inside.live ≡ Some live = sym c.take.ensures.value ∙ c.in-Some.is in
    let stands : Stands flows count (g.S.Mine.begin number) slot.mine inside.now inside.out live = subst (λ (o : Option Live). StandsIn flows count (g.S.Mine.begin number) slot.mine inside.now inside.out o) live_is c.self.invariant in
    let view_is : view number slot (Some live) inside.now inside.out inside.owner inside.round ≡ c.args.self.now =
    ap (λ (o : Option Live). view number slot o inside.now inside.out inside.owner inside.round) (sym live_is) ∙ c.self.view_is in
    let known = subst (λ (o : Option Offered). IsKnownAs (state_of live.base) (state_of (ahead_of live)) (waits_of live.waits) (message_of c.args.message) o) c.in-Some-known.is c.in-Ok.ensures in
    let here = subst (λ (l : List Waiting). IsKnownAs (state_of live.base) (state_of (ahead_of live)) l (message_of c.args.message) (Some c.in-Some-known.offered)) (waits_are flows count g.S.Mine.begin number slot inside.now inside.out inside.owner inside.round live stands c.args.self.now view_is) known in (
      state_of live.base,
      base_of_self flows count g.S.Mine.begin number slot inside.now inside.out inside.owner inside.round live stands c.args.self.now view_is,
      state_of (ahead_of live),
      ahead_of_self flows count g.S.Mine.begin number slot inside.now inside.out inside.owner inside.round live stands c.args.self.now view_is,
      known_offer (state_of live.base) (state_of (ahead_of live)) (message_of c.args.message) c.args.self.now _ c.in-Some-known.offered here (same_view flows count g.S.Mine.begin number slot inside.now inside.out inside.owner inside.round live stands c.args.self.now view_is c.put.new.place c.put.ensures),
    )

pub invariant_of-self-2 : goal.invariant_of-self-2
invariant_of-self-2 g c =
    let flows = g.S.Mine.flows in
    let count = g.S.Mine.count in
    let inside = c.self.inside in
    let number = g.S.Mine.number inside.seat in
    let slot = g.S.Mine.slot inside.seat in
    let live = c.in-Some.live in
    let live_is : inside.live ≡ Some live = sym c.take.ensures.value ∙ c.in-Some.is in
    let stands : Stands flows count (g.S.Mine.begin number) slot.mine inside.now inside.out live = subst (λ (o : Option Live). StandsIn flows count (g.S.Mine.begin number) slot.mine inside.now inside.out o) live_is c.self.invariant in
    let view_is : view number slot (Some live) inside.now inside.out inside.owner inside.round ≡ c.args.self.now =
    ap (λ (o : Option Live). view number slot o inside.now inside.out inside.owner inside.round) (sym live_is) ∙ c.self.view_is in
    queued_stands flows count g.S.Mine.begin number slot inside.now inside.out inside.owner inside.round live stands c.args.self.now view_is c.in_ok-next.next c.put-2.new.place (wait_of (waiting.Outside (Took c.args.message))) c.put-2.ensures c.in_ok-next.ensures.base c.in_ok-next.ensures.steps c.in_ok-next.ensures.incarnation c.in_ok-next.ensures.given c.in_ok-next.ensures.waits c.in_ok-next.ensures.indexed tt

pub returns-clause-offers : goal.returns-clause-offers
returns-clause-offers g c =
    let flows = g.S.Mine.flows in
    let count = g.S.Mine.count in
    let inside = c.self.inside in
    let number = g.S.Mine.number inside.seat in
    let slot = g.S.Mine.slot inside.seat in
    let live = c.in-Some.live in
    let live_is : inside.live ≡ Some live = sym c.take.ensures.value ∙ c.in-Some.is in
    let stands : Stands flows count (g.S.Mine.begin number) slot.mine inside.now inside.out live = subst (λ (o : Option Live). StandsIn flows count (g.S.Mine.begin number) slot.mine inside.now inside.out o) live_is c.self.invariant in
    let view_is : view number slot (Some live) inside.now inside.out inside.owner inside.round ≡ c.args.self.now =
    ap (λ (o : Option Live). view number slot o inside.now inside.out inside.owner inside.round) (sym live_is) ∙ c.self.view_is in
    let none = subst (λ (o : Option Offered). IsKnownAs (state_of live.base) (state_of (ahead_of live)) (waits_of live.waits) (message_of c.args.message) o) c.in_default-known.is c.in-Ok.ensures in
    let here = subst (λ (l : List Waiting). IsKnownAs (state_of live.base) (state_of (ahead_of live)) l (message_of c.args.message) None) (waits_are flows count g.S.Mine.begin number slot inside.now inside.out inside.owner inside.round live stands c.args.self.now view_is) none in (
      state_of live.base,
      base_of_self flows count g.S.Mine.begin number slot inside.now inside.out inside.owner inside.round live stands c.args.self.now view_is,
      state_of (ahead_of live),
      ahead_of_self flows count g.S.Mine.begin number slot inside.now inside.out inside.owner inside.round live stands c.args.self.now view_is,
      (here, queued_view flows count g.S.Mine.begin number slot inside.now inside.out inside.owner inside.round live stands c.args.self.now view_is c.in_ok-next.next c.put-2.new.place (wait_of (waiting.Outside (Took c.args.message))) c.put-2.ensures c.in_ok-next.ensures.steps c.in_ok-next.ensures.incarnation c.in_ok-next.ensures.given c.in_ok-next.ensures.waits),
    )
