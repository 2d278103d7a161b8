use Rattle.std.specs.Int.{w16, w64, to_be_bytes}
use Rattle.part_items.specs.Spelling.{spell_heading}
use Rattle.part_items.proofs.Writes.{three_written}
use Rattle.part_items.proofs.writing.write_heading.Goals as goal

pub returns : goal.returns
unfolding spell_heading
returns c =
    three_written c.write_u16.result c.args.out.now.items c.write_u64.new.out.items c.write_u64-2.new.out.items c.write_u16.new.out.items (to_be_bytes w64 c.args.position) (to_be_bytes w64 c.args.incarnation) (to_be_bytes w16 c.args.count) c.in_ok-write_u64.ensures c.in_ok-write_u64-2.ensures c.write_u16.ensures
