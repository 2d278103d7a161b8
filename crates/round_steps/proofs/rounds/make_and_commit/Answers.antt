use Rattle.std.proofs.Common.{◌∙◌}
use Rattle.round_steps.proofs.Goes.{goes_then}
use Rattle.round_steps.proofs.rounds.make_and_commit.Goals as goal

pub returns-in_err-step_and_commit-clause-goes : goal.returns-in_err-step_and_commit-clause-goes
returns-in_err-step_and_commit-clause-goes g c = goes_then g.M.Picked.rules c.args.store.now c.turns.store c.step_and_commit.new.store c.turns.invariant.goes c.step_and_commit.ensures.goes

pub returns-then-not-branch-clause-goes : goal.returns-then-not-branch-clause-goes
returns-then-not-branch-clause-goes g c = goes_then g.M.Picked.rules c.args.store.now c.turns.store c.step_and_commit.new.store c.turns.invariant.goes c.step_and_commit.ensures.goes

pub turns-preserved : goal.turns-preserved
turns-preserved g c =
    let inv = c.turns.invariant in
    let h = c.step_and_commit.ensures in
    record {
      goes = goes_then g.M.Picked.rules c.args.store.now c.turns.store c.step_and_commit.new.store c.turns.invariant.goes c.step_and_commit.ensures.goes;
      serving = c.in_ok-step_and_commit.ensures.serving;
      latest = h.latest ∙ inv.latest;
      fewer = λ few. h.fewer (inv.fewer few);
      counted = c.in_ok-step_and_commit.ensures.counted;
    }
