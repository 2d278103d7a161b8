-- Why what is done with cells alone halts, behind what was done with them before.
use Rattle.std.proofs.Common.{List, Result, Ok, Err, IfErr}
use Rattle.cell_frames.specs.Joined.{StoreView}
use Rattle.many_rules.specs.Rules.{Rules}
use Rattle.node_core.proofs.Spending.{inner_then}
use Rattle.node_core.specs.Halts.{IsInner}
use Rattle.node_core.specs.declared.halt.Halt.{Halt}
use Rattle.spec_cell.specs.Views.{CellView}
use Rattle.world_steps.specs.Cells.{AllJoined}

pub inner_behind : {X : Type 0} (rules : Rules) (old mid new : List CellView) (r : Result X Halt) → ((s : StoreView) → AllJoined rules s old → AllJoined rules s mid) → IfErr r (IsInner rules mid new) → IfErr r (IsInner rules old new)
inner_behind rules old mid new (Ok x) joined inner = tt
inner_behind rules old mid new (Err halt) joined inner = inner_then rules old mid new halt joined inner
