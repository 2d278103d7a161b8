use Rattle.std.proofs.Common.{arith, rules, ap, ◌∙◌, ◌∷◌, sym, take, get_or, length}
use Rattle.std.proofs.lemmas.List.{take_more}
use Rattle.site_model.specs.History.{on, wrote}
use Rattle.site_memory.specs.Record.{history_of}
use Rattle.site_memory.proofs.History.{history_push, history_byte}
use Rattle.site_memory.proofs.record.keep_write.Goals as goal

pub loop-byte-init : goal.loop-byte-init
loop-byte-init c = record {
  history = ap history_of c.push_reserved.ensures.items ∙ history_push _ _;
  len = search rules;
  capacity = search rules;
}

pub loop-byte-preserved : goal.loop-byte-preserved
loop-byte-preserved c = record {
  history =
      ap history_of c.push_reserved-in-loop-byte.ensures.items
      ∙ history_byte _ c.args.file c.args.at (length c.args.bytes.now) (get_or c.args.bytes.now c.loop-byte.byte-index 0) (take c.loop-byte.byte-index c.args.bytes.now) _ c.loop-byte.invariant.history
      ∙ ap (λ l. on c.args.file (wrote c.args.at (length c.args.bytes.now) l) ∷ history_of c.args.kept.now.items)
      (sym (take_more c.args.bytes.now c.loop-byte.byte-index 0 (omega arith)));
  len = search rules;
  capacity = search rules;
}
