use Rattle.std.proofs.Common.{◌≡◌, ◌-◌}
use Rattle.log_items.specs.Plain.{items_of}
use Rattle.dura_codec.specs.Fields.{several_at}
use Rattle.part_items.specs.Grammar.{item_at}
use Rattle.dura_codec.proofs.Several.{with_front}
use Rattle.part_items.proofs.reading.take_items.Given as goal

-- the items so far and those of the rest are all
abbrev pub invariant-loop : goal.invariant-loop
invariant-loop l = with_front (items_of l.items.items) (several_at item_at (l.count - l.counter) l.rest) ≡ several_at item_at l.count l.bytes
