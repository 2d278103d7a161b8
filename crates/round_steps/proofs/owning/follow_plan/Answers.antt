use Rattle.std.proofs.Common.{◌∙◌}
use Rattle.round_steps.proofs.Goes.{goes_then}
use Rattle.round_steps.proofs.owning.follow_plan.Goals as goal

pub returns-in_err-follow_part-clause-goes : goal.returns-in_err-follow_part-clause-goes
returns-in_err-follow_part-clause-goes g c = goes_then g.M.Picked.rules c.args.store.now c.parts.store c.follow_part.new.store c.parts.invariant.goes c.follow_part.ensures.goes

pub parts-preserved : goal.parts-preserved
parts-preserved g c =
    let inv = c.parts.invariant in
    let h = c.follow_part.ensures in
    record {
      goes = goes_then g.M.Picked.rules c.args.store.now c.parts.store c.follow_part.new.store c.parts.invariant.goes c.follow_part.ensures.goes;
      serving = c.in_ok-follow_part.ensures.serving;
      latest = h.latest ∙ inv.latest;
      fewer = λ few. h.fewer (inv.fewer few);
      counted = c.in_ok-follow_part.ensures.counted;
    }
