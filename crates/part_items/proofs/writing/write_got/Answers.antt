use Rattle.std.proofs.Common.{[], ◌∷◌}
use Rattle.std.specs.Int.{w32, to_be_bytes}
use Rattle.dura_value.specs.Views.{message_of}
use Rattle.dura_codec.specs.Spelling.{spell_message}
use Rattle.part_items.specs.Spelling.{spell_three}
use Rattle.part_items.specs.Tags.{got_tag}
use Rattle.part_items.proofs.Writes.{four_written}
use Rattle.part_items.proofs.writing.write_got.Goals as goal

pub returns : goal.returns
returns c =
    four_written c.write_message.result c.args.out.now.items c.push.new.self.items c.write_u32.new.out.items c.write_three.new.out.items c.write_message.new.out.items (got_tag ∷ []) (to_be_bytes w32 c.args.src) (spell_three c.args.inc c.args.pos c.args.seq) (spell_message (message_of c.args.message.now)) c.in_ok-push.ensures.items c.in_ok-write_u32.ensures c.in_ok-write_three.ensures c.write_message.ensures
