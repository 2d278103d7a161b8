use Rattle.std.proofs.Common.{◌≡◌, ◌∙◌, Option, Some, sym, ap, subst}
use Rattle.part_steps.specs.States.{state_of}
use Rattle.spec_cell.specs.Views.{Stands, StandsIn}
use Rattle.cell_steps.specs.declared.live.Live.{Live}
use Rattle.spec_cell.proofs.CellFacts.{view, base_of_self}
use Rattle.spec_cell.proofs.TasksGiven.{gives_task}
use Rattle.spec_cell.proofs.cell.Cell.next_task.Goals as goal

pub returns-clause-gives : goal.returns-clause-gives
returns-clause-gives g c =
    let flows = g.S.Mine.flows in
    let count = g.S.Mine.count in
    let inside = c.self.inside in
    let number = g.S.Mine.number inside.seat in
    let slot = g.S.Mine.slot inside.seat in
    let live = c.in-Some.live in
    let live_is : inside.live ≡ Some live = sym c.take.ensures.value ∙ c.in-Some.is in
    let stands : Stands flows count (g.S.Mine.begin number) slot.mine inside.now inside.out live = subst (λ (o : Option Live). StandsIn flows count (g.S.Mine.begin number) slot.mine inside.now inside.out o) live_is c.self.invariant in
    let view_is : view number slot (Some live) inside.now inside.out inside.owner inside.round ≡ c.args.self.now =
    ap (λ (o : Option Live). view number slot o inside.now inside.out inside.owner inside.round) (sym live_is) ∙ c.self.view_is in (
      state_of live.base,
      base_of_self flows count g.S.Mine.begin number slot inside.now inside.out inside.owner inside.round live stands c.args.self.now view_is,
      gives_task number slot inside.now inside.out inside.owner inside.round live c.args.self.now view_is (state_of live.base) c.in_ok-next.next c.put.new.place c.in_ok-next.task c.put.ensures c.in_ok-next.ensures.steps c.in_ok-next.ensures.incarnation c.in_ok-next.ensures.waits c.in_ok-next.ensures.gives,
    )
