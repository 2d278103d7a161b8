use Rattle.std.proofs.Common.{◌≤◌, length, All}
use Rattle.log_items.specs.Plain.{items_of}
use Rattle.part_items.specs.Spelling.{CanSpellItem}
use Rattle.frame_bench.proofs.frame.make_items.Given as goal

-- there are as many as were made, and each can be written
abbrev pub invariant-loop-index : goal.invariant-loop-index
invariant-loop-index l = record { few : length l.items.items ≤ l.index; each : All CanSpellItem (items_of l.items.items) }
