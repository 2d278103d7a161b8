use Rattle.std.proofs.Common.{[], ◌∷◌}
use Rattle.std.specs.Int.{w32, to_be_bytes}
use Rattle.part_items.specs.Spelling.{spell_three}
use Rattle.part_items.specs.Tags.{trim_tag}
use Rattle.part_items.proofs.Writes.{three_written}
use Rattle.part_items.proofs.writing.write_trim.Goals as goal

pub returns : goal.returns
returns c =
    three_written c.write_three.result c.args.out.now.items c.push.new.self.items c.write_u32.new.out.items c.write_three.new.out.items (trim_tag ∷ []) (to_be_bytes w32 c.args.dst) (spell_three c.args.upto c.args.inc c.args.pos) c.in_ok-push.ensures.items c.in_ok-write_u32.ensures c.write_three.ensures
