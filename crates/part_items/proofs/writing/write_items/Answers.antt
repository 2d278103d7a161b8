use Rattle.log_items.specs.Plain.{item_of}
use Rattle.part_items.specs.Spelling.{spell_item}
use Rattle.part_items.proofs.Each.{each_item}
use Rattle.part_items.proofs.Writes.{one_written}
use Rattle.part_items.proofs.writing.write_items.Goals as goal

pub write_item-requires : goal.write_item-requires
write_item-requires c = rw c.item-item.is (each_item c.args.items.now c.loop-item.item-index _ c.loop-item-test.true c.requires)

pub loop-item-preserved : goal.loop-item-preserved
loop-item-preserved c =
    one_written item_of spell_item c.args.items.now c.loop-item.item-index c.item-item.result c.args.out.now.items c.loop-item.out.items c.write_item.new.out.items c.loop-item-test.true c.item-item.is c.loop-item.invariant c.in_ok-write_item.ensures
