use Rattle.std.proofs.Common.{arith, length-append}
use Rattle.log_items.specs.Plain.{entry_of}
use Rattle.part_items.specs.Spelling.{CanSpellEntry}
use Rattle.frame_bench.proofs.Each.{one_more}
use Rattle.frame_bench.proofs.frame.make_frame.Goals as goal

pub loop-position-preserved : goal.loop-position-preserved
loop-position-preserved c = record {
  few = rw c.in_ok-push.ensures.items (omega (arith, length-append c.loop-position.entries.items));
  each = one_more CanSpellEntry entry_of c.loop-position.entries.items _ c.in_ok-make_entry.field-0 c.in_ok-push.ensures.items c.loop-position.invariant.each c.in_ok-make_entry.ensures;
}
