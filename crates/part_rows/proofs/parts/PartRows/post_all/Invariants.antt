use Rattle.std.proofs.Common.{◌≡◌}
use Rattle.std.specs.Vec.Iter.{into_iter_items}
use Rattle.dura_value.specs.Views.{messages_of}
use Rattle.dura_model.specs.Partition.{post_all}
use Rattle.part_rows.specs.Parts.{part_of}
use Rattle.part_rows.proofs.parts.PartRows.post_all.Given as goal

-- what is left to post leads to where all is posted
abbrev pub invariant-loop-message : goal.invariant-loop-message
invariant-loop-message l =
    (post_all l.initial.self.partitions (part_of l.self) (messages_of (into_iter_items l.message-iterator)) ≡ post_all l.initial.self.partitions (part_of l.initial.self) (messages_of l.fn.messages.items))
    × (l.self.partitions ≡ l.initial.self.partitions) × (l.self.timers ≡ l.initial.self.timers)
