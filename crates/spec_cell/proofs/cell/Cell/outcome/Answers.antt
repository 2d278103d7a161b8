use Rattle.std.proofs.Common.{◌≡◌, ◌∙◌, true, false, List, Option, Some, sym, ap, subst}
use Rattle.cell_waits.specs.Waits.{Waiting, wait_of}
use Rattle.cell_waits.specs.declared.wait.Wait.TheVariants as waiting
use Rattle.part_steps.specs.States.{state_of}
use Rattle.part_steps.specs.declared.state.PartState.{PartState}
use Rattle.cell_steps.specs.Ahead.{ahead_of}
use Rattle.spec_cell.specs.Views.{Stands, StandsIn}
use Rattle.cell_steps.specs.declared.live.Live.{Live}
use Rattle.spec_cell.proofs.CellFacts.{view, ahead_of_self, same_view, waits_are, queued_view, queued_stands}
use Rattle.dura_value.specs.Views.{id_of}
use Rattle.part_rows.specs.Views.{activity_of}
use Rattle.std.specs.List.{list_any}
use Rattle.cell_waits.specs.Waits.{is_outcome_of}
use Rattle.cell_steps.specs.Fills.{IsFor}
use Rattle.spec_cell.proofs.cell.Cell.outcome.Goals as goal

pub returns-then-not-is_pending-clause-records : goal.returns-then-not-is_pending-clause-records
returns-then-not-is_pending-clause-records g c =
    let flows = g.S.Mine.flows in
    let count = g.S.Mine.count in
    let inside = c.self.inside in
    let number = g.S.Mine.number inside.seat in
    let slot = g.S.Mine.slot inside.seat in
    let live = c.in-Some.live in
    let live_is : inside.live ≡ Some live = sym c.take.ensures.value ∙ c.in-Some.is in
    let stands : Stands flows count (g.S.Mine.begin number) slot.mine inside.now inside.out live = subst (λ (o : Option Live). StandsIn flows count (g.S.Mine.begin number) slot.mine inside.now inside.out o) live_is c.self.invariant in
    let view_is : view number slot (Some live) inside.now inside.out inside.owner inside.round ≡ c.args.self.now =
    ap (λ (o : Option Live). view number slot o inside.now inside.out inside.owner inside.round) (sym live_is) ∙ c.self.view_is in
    let gone = c.is_pending.ensures.gone c.if-not-is_pending.true in (
      state_of (ahead_of live),
      ahead_of_self flows count g.S.Mine.begin number slot inside.now inside.out inside.owner inside.round live stands c.args.self.now view_is,
      (λ awaited. gone (subst (λ (s : PartState). IsFor (state_of s) (wait_of (waiting.Ended c.args.ended))) (sym c.ahead.ensures) awaited.0), same_view flows count g.S.Mine.begin number slot inside.now inside.out inside.owner inside.round live stands c.args.self.now view_is c.put.new.place c.put.ensures),
    )

pub returns-then-has_outcome-clause-records : goal.returns-then-has_outcome-clause-records
returns-then-has_outcome-clause-records g c =
    let flows = g.S.Mine.flows in
    let count = g.S.Mine.count in
    let inside = c.self.inside in
    let number = g.S.Mine.number inside.seat in
    let slot = g.S.Mine.slot inside.seat in
    let live = c.in-Some.live in
    let live_is : inside.live ≡ Some live = sym c.take.ensures.value ∙ c.in-Some.is in
    let stands : Stands flows count (g.S.Mine.begin number) slot.mine inside.now inside.out live = subst (λ (o : Option Live). StandsIn flows count (g.S.Mine.begin number) slot.mine inside.now inside.out o) live_is c.self.invariant in
    let view_is : view number slot (Some live) inside.now inside.out inside.owner inside.round ≡ c.args.self.now =
    ap (λ (o : Option Live). view number slot o inside.now inside.out inside.owner inside.round) (sym live_is) ∙ c.self.view_is in
    let any : list_any (is_outcome_of (id_of c.args.ended.id) c.args.ended.task (activity_of c.args.ended.activity)) c.args.self.now.waits ≡ true =
    ap (λ (l : List Waiting). list_any (is_outcome_of (id_of c.args.ended.id) c.args.ended.task (activity_of c.args.ended.activity)) l) (sym (waits_are flows count g.S.Mine.begin number slot inside.now inside.out inside.owner inside.round live stands c.args.self.now view_is)) ∙ sym c.has_outcome.ensures ∙ c.if-has_outcome.true in (
      state_of (ahead_of live),
      ahead_of_self flows count g.S.Mine.begin number slot inside.now inside.out inside.owner inside.round live stands c.args.self.now view_is,
      (λ awaited. cc (any, awaited.1), same_view flows count g.S.Mine.begin number slot inside.now inside.out inside.owner inside.round live stands c.args.self.now view_is c.put-then-has_outcome.new.place c.put-then-has_outcome.ensures),
    )

pub invariant_of-self-2 : goal.invariant_of-self-2
invariant_of-self-2 g c =
    let flows = g.S.Mine.flows in
    let count = g.S.Mine.count in
    let inside = c.self.inside in
    let number = g.S.Mine.number inside.seat in
    let slot = g.S.Mine.slot inside.seat in
    let live = c.in-Some.live in
    let live_is : inside.live ≡ Some live = sym c.take.ensures.value ∙ c.in-Some.is in
    let stands : Stands flows count (g.S.Mine.begin number) slot.mine inside.now inside.out live = subst (λ (o : Option Live). StandsIn flows count (g.S.Mine.begin number) slot.mine inside.now inside.out o) live_is c.self.invariant in
    let view_is : view number slot (Some live) inside.now inside.out inside.owner inside.round ≡ c.args.self.now =
    ap (λ (o : Option Live). view number slot o inside.now inside.out inside.owner inside.round) (sym live_is) ∙ c.self.view_is in
    queued_stands flows count g.S.Mine.begin number slot inside.now inside.out inside.owner inside.round live stands c.args.self.now view_is c.in_ok-next.next c.put-2.new.place (wait_of (waiting.Ended c.args.ended)) c.put-2.ensures c.in_ok-next.ensures.base c.in_ok-next.ensures.steps c.in_ok-next.ensures.incarnation c.in_ok-next.ensures.given c.in_ok-next.ensures.waits c.in_ok-next.ensures.indexed c.requires

pub returns-clause-records : goal.returns-clause-records
returns-clause-records g c =
    let flows = g.S.Mine.flows in
    let count = g.S.Mine.count in
    let inside = c.self.inside in
    let number = g.S.Mine.number inside.seat in
    let slot = g.S.Mine.slot inside.seat in
    let live = c.in-Some.live in
    let live_is : inside.live ≡ Some live = sym c.take.ensures.value ∙ c.in-Some.is in
    let stands : Stands flows count (g.S.Mine.begin number) slot.mine inside.now inside.out live = subst (λ (o : Option Live). StandsIn flows count (g.S.Mine.begin number) slot.mine inside.now inside.out o) live_is c.self.invariant in
    let view_is : view number slot (Some live) inside.now inside.out inside.owner inside.round ≡ c.args.self.now =
    ap (λ (o : Option Live). view number slot o inside.now inside.out inside.owner inside.round) (sym live_is) ∙ c.self.view_is in
    let pending = c.is_pending.ensures.pending c.if-not-is_pending.false in
    let none : list_any (is_outcome_of (id_of c.args.ended.id) c.args.ended.task (activity_of c.args.ended.activity)) c.args.self.now.waits ≡ false =
    ap (λ (l : List Waiting). list_any (is_outcome_of (id_of c.args.ended.id) c.args.ended.task (activity_of c.args.ended.activity)) l) (sym (waits_are flows count g.S.Mine.begin number slot inside.now inside.out inside.owner inside.round live stands c.args.self.now view_is)) ∙ sym c.has_outcome.ensures ∙ c.if-has_outcome.false in (
      state_of (ahead_of live),
      ahead_of_self flows count g.S.Mine.begin number slot inside.now inside.out inside.owner inside.round live stands c.args.self.now view_is,
      (
        (subst (λ (s : PartState). IsFor (state_of s) (wait_of (waiting.Ended c.args.ended))) c.ahead.ensures pending, none),
        queued_view flows count g.S.Mine.begin number slot inside.now inside.out inside.owner inside.round live stands c.args.self.now view_is c.in_ok-next.next c.put-2.new.place (wait_of (waiting.Ended c.args.ended)) c.put-2.ensures c.in_ok-next.ensures.steps c.in_ok-next.ensures.incarnation c.in_ok-next.ensures.given c.in_ok-next.ensures.waits,
      ),
    )
