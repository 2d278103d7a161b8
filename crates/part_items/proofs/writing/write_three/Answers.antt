use Rattle.std.specs.Int.{w64, to_be_bytes}
use Rattle.part_items.specs.Spelling.{spell_three}
use Rattle.part_items.proofs.Writes.{three_written}
use Rattle.part_items.proofs.writing.write_three.Goals as goal

pub returns : goal.returns
unfolding spell_three
returns c =
    three_written c.write_u64-3.result c.args.out.now.items c.write_u64.new.out.items c.write_u64-2.new.out.items c.write_u64-3.new.out.items (to_be_bytes w64 c.args.a) (to_be_bytes w64 c.args.b) (to_be_bytes w64 c.args.c) c.in_ok-write_u64.ensures c.in_ok-write_u64-2.ensures c.write_u64-3.ensures
