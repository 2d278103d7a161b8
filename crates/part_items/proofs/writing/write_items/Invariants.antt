use Rattle.std.proofs.Common.{◌≡◌, ◌++◌, take}
use Rattle.std.specs.List.{flat_map}
use Rattle.log_items.specs.Plain.{items_of}
use Rattle.part_items.specs.Spelling.{spell_item}
use Rattle.part_items.proofs.writing.write_items.Given as goal

-- those before this one are written
abbrev pub invariant-loop-item : goal.invariant-loop-item
invariant-loop-item l = l.out.items ≡ l.initial.out.items ++ flat_map spell_item (items_of (take l.item-index l.items))
