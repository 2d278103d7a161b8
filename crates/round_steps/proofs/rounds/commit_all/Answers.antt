use Rattle.std.proofs.Common.{◌∙◌}
use Rattle.round_steps.proofs.Goes.{goes_then}
use Rattle.round_steps.proofs.rounds.commit_all.Goals as goal

pub returns-in_err-commit_once-clause-goes : goal.returns-in_err-commit_once-clause-goes
returns-in_err-commit_once-clause-goes g c = goes_then g.M.Picked.rules c.args.store.now c.waves.store c.commit_once.new.store c.waves.invariant.goes c.commit_once.ensures.goes

pub returns-then-not-branch-clause-goes : goal.returns-then-not-branch-clause-goes
returns-then-not-branch-clause-goes g c = goes_then g.M.Picked.rules c.args.store.now c.waves.store c.commit_once.new.store c.waves.invariant.goes c.commit_once.ensures.goes

pub waves-preserved : goal.waves-preserved
waves-preserved g c =
    let inv = c.waves.invariant in
    let h = c.commit_once.ensures in
    record {
      goes = goes_then g.M.Picked.rules c.args.store.now c.waves.store c.commit_once.new.store c.waves.invariant.goes c.commit_once.ensures.goes;
      serving = c.in_ok-commit_once.ensures.serving;
      latest = h.latest ∙ inv.latest;
      fewer = λ few. h.fewer (inv.fewer few);
      counted = c.in_ok-commit_once.ensures.counted;
    }
