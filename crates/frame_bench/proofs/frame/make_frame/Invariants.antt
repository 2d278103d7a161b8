use Rattle.std.proofs.Common.{◌≤◌, length, All}
use Rattle.log_items.specs.Plain.{entries_of}
use Rattle.part_items.specs.Spelling.{CanSpellEntry}
use Rattle.frame_bench.proofs.frame.make_frame.Given as goal

-- there are as many as were made, and each can be written
abbrev pub invariant-loop-position : goal.invariant-loop-position
invariant-loop-position l = record { few : length l.entries.items ≤ l.position; each : All CanSpellEntry (entries_of l.entries.items) }
