use Rattle.std.proofs.Common.{◌≡◌, ◌-◌}
use Rattle.log_items.specs.Plain.{entries_of}
use Rattle.dura_codec.specs.Fields.{several_at}
use Rattle.part_items.specs.Grammar.{entry_at}
use Rattle.dura_codec.proofs.Several.{with_front}
use Rattle.part_items.proofs.reading.take_entries.Given as goal

-- the entries so far and those of the rest are all
abbrev pub invariant-loop : goal.invariant-loop
invariant-loop l = with_front (entries_of l.entries.items) (several_at entry_at (l.count - l.counter) l.rest) ≡ several_at entry_at l.count l.bytes
