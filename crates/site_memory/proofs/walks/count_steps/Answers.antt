use Rattle.std.proofs.Common.{◌<◌, ◌+◌, arith, length, ap, ◌∙◌, sym}
use Rattle.site_memory.proofs.History.{history_empty, history_more}
use Rattle.site_memory.proofs.walks.count_steps.Goals as goal

pub loop-entry-init : goal.loop-entry-init
loop-entry-init c = record { steps = ap length (sym history_empty); few = omega arith }

pub loop-entry-preserved : goal.loop-entry-preserved
loop-entry-preserved c =
    let below : c.loop-entry.entry-index < length c.args.kept.now = omega arith in
    record {
      steps =
          ap (λ n. n + c.steps_in-steps.result) c.loop-entry.invariant.steps
          ∙ sym (c.steps_in-steps.ensures.steps _)
          ∙ ap length (sym (history_more c.args.kept.now c.loop-entry.entry-index _ below));
      few = omega arith;
    }
