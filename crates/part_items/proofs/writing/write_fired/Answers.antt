use Rattle.std.proofs.Common.{[], ◌∷◌}
use Rattle.std.specs.Int.{w32, w64, to_be_bytes}
use Rattle.dura_value.specs.Views.{id_of}
use Rattle.dura_codec.specs.Spelling.{spell_id}
use Rattle.part_items.specs.Tags.{fired_tag}
use Rattle.part_items.proofs.Writes.{four_written}
use Rattle.part_items.proofs.writing.write_fired.Goals as goal

pub returns : goal.returns
returns c =
    four_written c.write_u64.result c.args.out.now.items c.push.new.self.items c.write_id.new.out.items c.write_u32.new.out.items c.write_u64.new.out.items (fired_tag ∷ []) (spell_id (id_of c.args.id.now)) (to_be_bytes w32 c.args.task) (to_be_bytes w64 c.args.stamp) c.in_ok-push.ensures.items c.in_ok-write_id.ensures c.in_ok-write_u32.ensures c.write_u64.ensures
