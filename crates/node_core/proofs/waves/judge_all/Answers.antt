use Rattle.std.proofs.Common.{◌∙◌}
use Rattle.node_core.proofs.Steps.{then_all}
use Rattle.node_core.proofs.waves.judge_all.Goals as goal

pub parts-preserved : goal.parts-preserved
parts-preserved g c =
    let inv = c.parts.invariant in
    let h = c.judge_part.ensures in
    record {
      keeps = then_all c.args.store.now.logs c.parts.store.logs c.judge_part.new.store.logs inv.keeps h.keeps;
      trail = h.trail ∙ inv.trail;
      running = c.in_ok-judge_part.ensures.running;
    }
