use Rattle.std.proofs.Common.{◌≡◌, ◌↔◌, true, IfOk, Some, slice_get, sym, subst}
use Rattle.dura_value.specs.Ids.{client, home}
use Rattle.rest_check.proofs.AtRest.{awaited_here}
use Rattle.rest_check.specs.Rest.{IsAwaitedAt}
use Rattle.part_steps.specs.States.{state_of}
use Rattle.spec_cell.specs.Views.{CellView}
use Rattle.rest_check.proofs.resting.is_awaited.Goals as goal
use Rattle.rest_check.proofs.resting.is_awaited.Goals.{in-Some, in-None}

pub returns : goal.returns
returns g c =
    let rules = g.M.Picked.rules in
    let cells = c.args.cells.now in
    let name = c.args.client.now in
    elim c.match-base.branch [
      | in-Some w ↦ subst (λ r. IfOk r (λ yes. (one : CellView) → slice_get cells (home rules.count (client name)) ≡ Some one → (yes ≡ true) ↔ IsAwaitedAt rules one (client name) c.args.number)) (sym w.awaited-is)
          (awaited_here rules cells c.home-part.result name c.in_ok-copy_name.field-0 c.index-cells-part.result (state_of w.in-Some.base.now) c.args.number w.is_awaited_in.result c.requires.many c.home-part.ensures c.in_ok-copy_name.ensures c.index-cells-part.is w.in-Some.ensures.base w.is_awaited_in.ensures)
      | in-None w ↦ subst (λ r. IfOk r (λ yes. (one : CellView) → slice_get cells (home rules.count (client name)) ≡ Some one → (yes ≡ true) ↔ IsAwaitedAt rules one (client name) c.args.number)) (sym w.awaited-is) tt
    ]
