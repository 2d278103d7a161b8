use Rattle.log_items.specs.Plain.{entry_of}
use Rattle.part_items.specs.Spelling.{spell_entry}
use Rattle.part_items.proofs.Each.{each_entry}
use Rattle.part_items.proofs.Writes.{one_written}
use Rattle.part_items.proofs.writing.write_entries.Goals as goal

pub write_entry-requires : goal.write_entry-requires
write_entry-requires c = rw c.entry-item.is (each_entry c.args.entries.now c.loop-entry.entry-index _ c.loop-entry-test.true c.requires)

pub loop-entry-preserved : goal.loop-entry-preserved
loop-entry-preserved c =
    one_written entry_of spell_entry c.args.entries.now c.loop-entry.entry-index c.entry-item.result c.args.out.now.items c.loop-entry.out.items c.write_entry.new.out.items c.loop-entry-test.true c.entry-item.is c.loop-entry.invariant c.in_ok-write_entry.ensures
