use Rattle.std.proofs.Common.{arith, length-append}
use Rattle.log_items.specs.Plain.{item_of}
use Rattle.part_items.specs.Spelling.{CanSpellItem}
use Rattle.frame_bench.proofs.Each.{one_more}
use Rattle.frame_bench.proofs.frame.make_items.Goals as goal

pub loop-index-preserved : goal.loop-index-preserved
loop-index-preserved c = record {
  few = rw c.in_ok-push.ensures.items (omega (arith, length-append c.loop-index.items.items));
  each = one_more CanSpellItem item_of c.loop-index.items.items _ c.in_ok-make_item.field-0 c.in_ok-push.ensures.items c.loop-index.invariant.each c.in_ok-make_item.ensures;
}
