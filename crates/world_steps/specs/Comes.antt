-- What comes to a cell, by its states.
use Rattle.std.specs.Prelude.{◌≡◌, ◌<◌, ℕ, List, Option, Some, slice_get}
use Rattle.cell_waits.specs.declared.wait.Ended.{Ended}
use Rattle.dura_model.specs.Partition.{Partition}
use Rattle.dura_value.specs.Ids.{Id}
use Rattle.dura_value.specs.Messages.{Message}
use Rattle.dura_value.specs.Views.{id_of, message_of}
use Rattle.log_items.specs.declared.items.Packet.{Packet}
use Rattle.many_rules.specs.Rules.{Rules}
use Rattle.part_rows.specs.Views.{activity_of}
use Rattle.spec_cell.specs.Comes.{Arrives, Records, Offers}
use Rattle.spec_cell.specs.GivesTask.{GivesTask}
use Rattle.spec_cell.specs.Trims.{Trims}
use Rattle.spec_cell.specs.Views.{CellView, IsBase, IsAhead}
use Rattle.spec_cell.specs.declared.coming.Arrived.{Arrived}
use Rattle.spec_cell.specs.declared.coming.Offered.{Offered}
use Rattle.spec_cell.specs.declared.coming.Recorded.{Recorded}
use Rattle.spec_cell.specs.declared.tasks.Task.{Task}
use Rattle.spec_tracker.specs.declared.marks.Marks.{Marks}
use Rattle.task_laws.specs.Asked.{tasks_at}

module _ (rules : Rules) where
  -- what an offered request comes to
  abbrev pub OffersTo : Message → Offered → (c after : CellView) → Type 0
  OffersTo message offered c after =
      (base : Partition) × IsBase rules.flows rules.count (rules.begin c.number) c base
      × ((ahead : Partition) × IsAhead rules.flows rules.count (rules.begin c.number) c ahead × Offers base ahead message c offered after)

  -- what a packet does
  abbrev pub ArrivesAt : Packet → Arrived → (c after : CellView) → Type 0
  ArrivesAt packet arrived c after =
      (ahead : Partition) × IsAhead rules.flows rules.count (rules.begin c.number) c ahead
      × Arrives ahead (record { partition = packet.src; incarnation = packet.inc; position = packet.pos }) packet.seq (message_of packet.message) c arrived after

  -- what an activity's outcome does
  abbrev pub RecordsAt : Ended → Recorded → (c after : CellView) → Type 0
  RecordsAt ended recorded c after =
      (ahead : Partition) × IsAhead rules.flows rules.count (rules.begin c.number) c ahead
      × Records ahead (id_of ended.id) ended.task (activity_of ended.activity) ended.outcome c recorded after

  -- what may be let go of, by what is known of the logs
  abbrev pub TrimsAt : Marks → (count : ℕ) → (c after : CellView) → Type 0
  TrimsAt marks count c after = (ahead : Partition) × IsAhead rules.flows rules.count (rules.begin c.number) c ahead × Trims marks ahead c count after

  -- the activity of a task was asked for, by the settled state of its cell
  abbrev pub IsAskedFor : (partition : ℕ) → Id → (task : ℕ) → List CellView → Type 0
  IsAskedFor partition id task cells =
      (c : CellView) → slice_get cells partition ≡ Some c → (base : Partition) → IsBase rules.flows rules.count (rules.begin c.number) c base → task < tasks_at rules.flows base id

  -- a task is given out, if one is pending that isn't out
  abbrev pub GivesAt : Option Task → (c after : CellView) → Type 0
  GivesAt task c after = (base : Partition) × IsBase rules.flows rules.count (rules.begin c.number) c base × GivesTask base c task after
