use Rattle.std.proofs.Common.{◌≡◌, map}
use Rattle.std.specs.Vec.Iter.{into_iter_items}
use Rattle.dura_value.specs.Views.{id_of}
use Rattle.flow_messages.specs.Views.{asked_of}
use Rattle.part_rows.specs.Timers.{InOrder}
use Rattle.dura_model.specs.Partition.{asked_in}
use Rattle.part_rows.specs.Parts.{part_of}
use Rattle.part_rows.proofs.parts.PartRows.ask_all.Given as goal

-- what is left to ask for leads to where all is asked for
abbrev pub invariant-loop-one : goal.invariant-loop-one
invariant-loop-one l =
    (asked_in (part_of l.self) (id_of l.id) (map asked_of (into_iter_items l.one-iterator)) ≡ asked_in (part_of l.initial.self) (id_of l.id) (map asked_of l.fn.asked.items))
    × InOrder l.self.timers
    × (l.self.partitions ≡ l.initial.self.partitions)
