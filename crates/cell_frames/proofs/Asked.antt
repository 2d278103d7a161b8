-- What is pending by what is settled was asked for.
use Rattle.std.proofs.Common.{◌<◌, ℕ}
use Rattle.cell_frames.specs.Begun.{HasBegun}
use Rattle.cell_frames.specs.Joined.{StoreView, Joined}
use Rattle.dura_model.specs.Partition.{Partition, fresh}
use Rattle.hub_store.specs.Origin.{Origin}
use Rattle.many_logs.proofs.Own.{own_chain}
use Rattle.many_logs.specs.Placing.{of_partition}
use Rattle.many_rules.specs.Rules.{Rules}
use Rattle.spec_cell.specs.Views.{CellView, IsBase}
use Rattle.task_laws.proofs.Behind.{fresh_asked, placed_asked}
use Rattle.task_laws.specs.Asked.{AreAsked}

pub base_asked : (o : Origin) (rules : Rules) (s : StoreView) (p : ℕ) (c : CellView) (base : Partition) → HasBegun o rules → p < rules.count → Joined rules s p c → IsBase rules.flows rules.count (rules.begin c.number) c base → AreAsked rules.flows base
base_asked o rules s p c base begun below joined is =
    let begin = rules.begin c.number in
    let own = own_chain rules.flows rules.count rules.recovered fresh rules.begin c.number begun.made in
    let asked = placed_asked rules.flows rules.count (fresh c.number) begin (of_partition c.number rules.recovered) (fresh_asked rules.flows c.number) own in
    placed_asked rules.flows rules.count begin base c.slot.mine asked is
