use Rattle.std.proofs.Common.{◌≡◌, ◌∙◌, List, Option, Some, sym, ap, subst}
use Rattle.std.specs.List.{All}
use Rattle.cell_waits.specs.Waits.{Waiting, MayWait, waits_of}
use Rattle.part_steps.specs.States.{state_of}
use Rattle.cell_steps.specs.Ahead.{ahead_of}
use Rattle.spec_cell.specs.Trims.{trims_by, with_trims}
use Rattle.spec_cell.specs.Views.{Stands, StandsIn}
use Rattle.cell_steps.specs.declared.live.Live.{Live}
use Rattle.spec_cell.proofs.CellFacts.{view, ahead_of_self, waits_are, waits_view, waits_stand}
use Rattle.spec_cell.proofs.StreamsTrimmed.{all_trims, trims_may}
use Rattle.spec_cell.proofs.cell.Cell.trim.Goals as goal

pub invariant_of-self-2 : goal.invariant_of-self-2
invariant_of-self-2 g c =
    let flows = g.S.Mine.flows in
    let count = g.S.Mine.count in
    let inside = c.self.inside in
    let number = g.S.Mine.number inside.seat in
    let slot = g.S.Mine.slot inside.seat in
    let live = c.in-Some.live in
    let live_is : inside.live ≡ Some live = sym c.take.ensures.value ∙ c.in-Some.is in
    let stands : Stands flows count (g.S.Mine.begin number) slot.mine inside.now inside.out live = subst (λ (o : Option Live). StandsIn flows count (g.S.Mine.begin number) slot.mine inside.now inside.out o) live_is c.self.invariant in
    let view_is : view number slot (Some live) inside.now inside.out inside.owner inside.round ≡ c.args.self.now =
    ap (λ (o : Option Live). view number slot o inside.now inside.out inside.owner inside.round) (sym live_is) ∙ c.self.view_is in
    let reads = c.args.marks.now.reads.items in
    let ahead = state_of (ahead_of live) in
    waits_stand flows count g.S.Mine.begin number slot inside.now inside.out inside.owner inside.round live stands c.args.self.now view_is c.in_ok-next.next c.put.new.place c.put.ensures c.in_ok-next.ensures.base c.in_ok-next.ensures.steps c.in_ok-next.ensures.incarnation c.in_ok-next.ensures.given c.in_ok-next.ensures.indexed
    (subst (All MayWait) (sym c.in_ok-next.ensures.waits) (trims_may (waits_of live.waits) (trims_by ahead reads) (all_trims ahead reads) stands.waits))

pub returns-clause-trims : goal.returns-clause-trims
returns-clause-trims g c =
    let flows = g.S.Mine.flows in
    let count = g.S.Mine.count in
    let inside = c.self.inside in
    let number = g.S.Mine.number inside.seat in
    let slot = g.S.Mine.slot inside.seat in
    let live = c.in-Some.live in
    let live_is : inside.live ≡ Some live = sym c.take.ensures.value ∙ c.in-Some.is in
    let stands : Stands flows count (g.S.Mine.begin number) slot.mine inside.now inside.out live = subst (λ (o : Option Live). StandsIn flows count (g.S.Mine.begin number) slot.mine inside.now inside.out o) live_is c.self.invariant in
    let view_is : view number slot (Some live) inside.now inside.out inside.owner inside.round ≡ c.args.self.now =
    ap (λ (o : Option Live). view number slot o inside.now inside.out inside.owner inside.round) (sym live_is) ∙ c.self.view_is in
    let trims = trims_by (state_of (ahead_of live)) c.args.marks.now.reads.items in (
      state_of (ahead_of live),
      ahead_of_self flows count g.S.Mine.begin number slot inside.now inside.out inside.owner inside.round live stands c.args.self.now view_is,
      (
        c.in_ok-next.ensures.count,
        waits_view flows count g.S.Mine.begin number slot inside.now inside.out inside.owner inside.round live stands c.args.self.now view_is c.in_ok-next.next c.put.new.place (with_trims c.args.self.now.waits trims) c.put.ensures c.in_ok-next.ensures.steps c.in_ok-next.ensures.incarnation c.in_ok-next.ensures.given
            (c.in_ok-next.ensures.waits ∙ ap (λ (l : List Waiting). with_trims l trims) (waits_are flows count g.S.Mine.begin number slot inside.now inside.out inside.owner inside.round live stands c.args.self.now view_is)),
      ),
    )
