use Rattle.std.proofs.Common.{◌≡◌, ◌<◌, ◌+◌, arith, length, take, ap, ◌∙◌, sym}
use Rattle.site_model.specs.History.{back_to}
use Rattle.site_memory.specs.Record.{history_of}
use Rattle.site_memory.proofs.History.{history_empty, history_more, history_cut}
use Rattle.site_memory.proofs.image.cut.Goals as goal
use Rattle.site_memory.proofs.image.cut.Goals.{else-more-eq1-via-then-more-eq1+else-steps-moment, else-more-eq1-via-else-more-eq1}

pub loop-i-init : goal.loop-i-init
loop-i-init c = record { steps = ap length (sym history_empty); few = omega arith; early = omega arith }

pub returns-then-steps-moment-clause-history : goal.returns-then-steps-moment-clause-history
returns-then-steps-moment-clause-history c =
    let below : c.loop-i.i < length c.args.kept.now = omega arith in
    let here : length (history_of (take c.loop-i.i c.args.kept.now)) ≡ c.args.moment = omega arith in
    history_cut c.args.kept.now c.loop-i.i _ below (c.steps_in-more.ensures.steps _ ∙ ap (λ n. length (history_of (take c.loop-i.i c.args.kept.now)) + n) c.if-more-eq1.true)
    ∙ ap (λ n. back_to n (history_of c.args.kept.now)) here

pub loop-i-preserved : goal.loop-i-preserved
loop-i-preserved c =
    let below : c.loop-i.i < length c.args.kept.now = omega arith in
    record {
      steps =
          ap (λ n. n + c.steps_in-more.result) c.loop-i.invariant.steps
          ∙ sym (c.steps_in-more.ensures.steps _)
          ∙ ap length (sym (history_more c.args.kept.now c.loop-i.i _ below));
      few = omega arith;
      early = elim c.else-more-eq1.branch [
        | else-more-eq1-via-then-more-eq1+else-steps-moment w ↦ omega arith
        | else-more-eq1-via-else-more-eq1 w ↦ omega arith
      ];
    }
