use Rattle.std.proofs.Common.{arith, rules, ap, ◌∙◌, sym, take, get_or}
use Rattle.std.proofs.lemmas.List.{take_more}
use Rattle.site_model.specs.History.{saying}
use Rattle.site_memory.specs.Record.{history_of}
use Rattle.site_memory.proofs.History.{history_said}
use Rattle.site_memory.proofs.record.keep_line.Goals as goal

pub loop-byte-preserved : goal.loop-byte-preserved
loop-byte-preserved c = record {
  history =
      ap history_of c.push_reserved.ensures.items
      ∙ history_said _ (get_or c.args.line.now c.loop-byte.byte-index 0) (take c.loop-byte.byte-index c.args.line.now) _ c.loop-byte.invariant.history
      ∙ ap (λ l. saying l (history_of c.args.kept.now.items)) (sym (take_more c.args.line.now c.loop-byte.byte-index 0 (omega arith)));
  len = search rules;
  capacity = search rules;
}
