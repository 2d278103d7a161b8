use Rattle.std.proofs.Common.{◌≡◌, ◌∙◌, ◌<◌, ◌≤◌, List, Option, Some, sym, ap, subst, arith}
use Rattle.std.specs.Prelude.{take, drop}
use Rattle.std.specs.List.{All}
use Rattle.dura_value.specs.Items.{Entry}
use Rattle.spec_cell.specs.Views.{Stands, StandsIn}
use Rattle.cell_steps.specs.declared.live.Live.{Live}
use Rattle.spec_cell.proofs.CellFacts.{view, same_view, given_up_stands, given_up_view, none_given, entries_are, incarnation_is, by_before, by_behind}
use Rattle.spec_cell.proofs.cell.Cell.reset.Goals as goal

pub returns-then-incarnation-ge-NUMBER_LIMIT-clause-resets : goal.returns-then-incarnation-ge-NUMBER_LIMIT-clause-resets
returns-then-incarnation-ge-NUMBER_LIMIT-clause-resets g c =
    let flows = g.S.Mine.flows in
    let count = g.S.Mine.count in
    let inside = c.self.inside in
    let number = g.S.Mine.number inside.seat in
    let slot = g.S.Mine.slot inside.seat in
    let live = c.in-Some.live in
    let live_is : inside.live ≡ Some live = sym c.take.ensures.value ∙ c.in-Some.is in
    let stands : Stands flows count (g.S.Mine.begin number) slot.mine inside.now inside.out live = subst (λ (o : Option Live). StandsIn flows count (g.S.Mine.begin number) slot.mine inside.now inside.out o) live_is c.self.invariant in
    let view_is : view number slot (Some live) inside.now inside.out inside.owner inside.round ≡ c.args.self.now =
    ap (λ (o : Option Live). view number slot o inside.now inside.out inside.owner inside.round) (sym live_is) ∙ c.self.view_is in
    let low = stands.low in
    let sum = c.saturating_add-incarnation.ensures in
    let own = incarnation_is flows count g.S.Mine.begin number slot inside.now inside.out inside.owner inside.round live stands c.args.self.now view_is in
    (same_view flows count g.S.Mine.begin number slot inside.now inside.out inside.owner inside.round live stands c.args.self.now view_is c.put.new.place c.put.ensures, omega (arith, sum, low, own), omega (arith, c.if-incarnation-ge-NUMBER_LIMIT.true))

pub invariant_of-self-2 : goal.invariant_of-self-2
invariant_of-self-2 g c =
    let flows = g.S.Mine.flows in
    let count = g.S.Mine.count in
    let inside = c.self.inside in
    let number = g.S.Mine.number inside.seat in
    let slot = g.S.Mine.slot inside.seat in
    let live = c.in-Some.live in
    let live_is : inside.live ≡ Some live = sym c.take.ensures.value ∙ c.in-Some.is in
    let stands : Stands flows count (g.S.Mine.begin number) slot.mine inside.now inside.out live = subst (λ (o : Option Live). StandsIn flows count (g.S.Mine.begin number) slot.mine inside.now inside.out o) live_is c.self.invariant in
    let view_is : view number slot (Some live) inside.now inside.out inside.owner inside.round ≡ c.args.self.now =
    ap (λ (o : Option Live). view number slot o inside.now inside.out inside.owner inside.round) (sym live_is) ∙ c.self.view_is in
    let low = stands.low in
    let sum = c.saturating_add-incarnation.ensures in
    let below = c.if-incarnation-ge-NUMBER_LIMIT.false in
    let kept_is = c.count_before-kept.ensures in
    let up = c.in_ok-next.ensures.incarnation in
    given_up_stands flows count g.S.Mine.begin number slot inside.now inside.out inside.owner inside.round live stands c.args.self.now view_is c.in_ok-next.next c.put-2.new.place c.count_before-kept.result 0 c.put-2.ensures (omega (arith, kept_is)) (omega arith) c.in_ok-next.ensures.base c.in_ok-next.ensures.steps up (omega (arith, up, sum, low, below)) c.in_ok-next.ensures.indexed (c.in_ok-next.ensures.may stands.waits) c.in_ok-next.ensures.anew

pub returns-clause-resets : goal.returns-clause-resets
returns-clause-resets g c =
    let flows = g.S.Mine.flows in
    let count = g.S.Mine.count in
    let inside = c.self.inside in
    let number = g.S.Mine.number inside.seat in
    let slot = g.S.Mine.slot inside.seat in
    let live = c.in-Some.live in
    let live_is : inside.live ≡ Some live = sym c.take.ensures.value ∙ c.in-Some.is in
    let stands : Stands flows count (g.S.Mine.begin number) slot.mine inside.now inside.out live = subst (λ (o : Option Live). StandsIn flows count (g.S.Mine.begin number) slot.mine inside.now inside.out o) live_is c.self.invariant in
    let view_is : view number slot (Some live) inside.now inside.out inside.owner inside.round ≡ c.args.self.now =
    ap (λ (o : Option Live). view number slot o inside.now inside.out inside.owner inside.round) (sym live_is) ∙ c.self.view_is in
    let kept = c.count_before-kept.result in
    let kept_is = c.count_before-kept.ensures in
    let entries = entries_are flows count g.S.Mine.begin number slot inside.now inside.out inside.owner inside.round live stands c.args.self.now view_is in
    record {
      kept = kept;
      before = subst (λ (l : List Entry). All (λ (e : Entry). e.position < c.args.floor) (take kept l)) entries (by_before flows live.base live.steps.items c.args.floor kept stands.sound stands.steps kept_is);
      behind = subst (λ (l : List Entry). All (λ (e : Entry). c.args.floor ≤ e.position) (drop kept l)) entries (by_behind flows live.base live.steps.items c.args.floor kept stands.sound stands.steps kept_is);
      becomes = given_up_view flows count g.S.Mine.begin number slot inside.now inside.out inside.owner inside.round live stands c.args.self.now view_is c.in_ok-next.next c.put-2.new.place kept 0 c.put-2.ensures c.in_ok-next.ensures.steps c.in_ok-next.ensures.incarnation c.in_ok-next.ensures.waits;
      none_given = none_given flows count g.S.Mine.begin number slot inside.now inside.out inside.owner inside.round live stands c.args.self.now view_is c.in_ok-next.next c.put-2.new.place c.put-2.ensures c.in_ok-next.ensures.given;
    }
