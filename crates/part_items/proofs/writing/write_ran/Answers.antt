use Rattle.std.proofs.Common.{[], ◌∷◌}
use Rattle.std.specs.Int.{w64, to_be_bytes}
use Rattle.dura_value.specs.Views.{id_of}
use Rattle.dura_codec.specs.Spelling.{spell_id}
use Rattle.part_items.specs.Tags.{ran_tag}
use Rattle.part_items.proofs.Writes.{four_written}
use Rattle.part_items.proofs.writing.write_ran.Goals as goal

pub returns : goal.returns
returns c =
    four_written c.write_u64.result c.args.out.now.items c.push.new.self.items c.write_id.new.out.items c.write_id-2.new.out.items c.write_u64.new.out.items (ran_tag ∷ []) (spell_id (id_of c.args.from.now)) (spell_id (id_of c.args.to.now)) (to_be_bytes w64 c.args.stamp) c.in_ok-push.ensures.items c.in_ok-write_id.ensures c.in_ok-write_id-2.ensures c.write_u64.ensures
