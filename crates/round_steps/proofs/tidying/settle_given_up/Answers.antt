use Rattle.std.proofs.Common.{◌∙◌}
use Rattle.round_steps.proofs.Goes.{goes_then}
use Rattle.round_steps.proofs.tidying.settle_given_up.Goals as goal

pub returns-in_err-judge_now-clause-goes : goal.returns-in_err-judge_now-clause-goes
returns-in_err-judge_now-clause-goes g c = goes_then g.M.Picked.rules c.args.store.now c.passes.store c.judge_now.new.store c.passes.invariant.goes c.judge_now.ensures.goes

pub returns-then-not-branch-clause-goes : goal.returns-then-not-branch-clause-goes
returns-then-not-branch-clause-goes g c = goes_then g.M.Picked.rules c.args.store.now c.passes.store c.judge_now.new.store c.passes.invariant.goes c.judge_now.ensures.goes

pub passes-preserved : goal.passes-preserved
passes-preserved g c =
    let inv = c.passes.invariant in
    let h = c.judge_now.ensures in
    record {
      goes = goes_then g.M.Picked.rules c.args.store.now c.passes.store c.judge_now.new.store c.passes.invariant.goes c.judge_now.ensures.goes;
      serving = c.in_ok-judge_now.ensures.serving;
      latest = h.latest ∙ inv.latest;
      seen = h.seen ∙ inv.seen;
      trail = h.trail ∙ inv.trail;
    }
