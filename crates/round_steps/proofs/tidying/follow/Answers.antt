use Rattle.round_steps.proofs.Goes.{goes_then}
use Rattle.round_steps.proofs.tidying.follow.Goals as goal

pub returns-in_err-settle_given_up-clause-goes : goal.returns-in_err-settle_given_up-clause-goes
returns-in_err-settle_given_up-clause-goes g c = goes_then g.M.Picked.rules c.args.store.now c.follow_plan.new.store c.settle_given_up.new.store c.follow_plan.ensures.goes c.settle_given_up.ensures.goes

pub returns-in_err-serve_all-clause-goes : goal.returns-in_err-serve_all-clause-goes
returns-in_err-serve_all-clause-goes g c =
    let r = g.M.Picked.rules in
    goes_then r c.args.store.now c.settle_given_up.new.store c.serve_all.new.store (goes_then r c.args.store.now c.follow_plan.new.store c.settle_given_up.new.store c.follow_plan.ensures.goes c.settle_given_up.ensures.goes) c.serve_all.ensures.goes

pub returns-clause-goes : goal.returns-clause-goes
returns-clause-goes g c =
    let r = g.M.Picked.rules in
    goes_then r c.args.store.now c.settle_given_up.new.store c.serve_all.new.store (goes_then r c.args.store.now c.follow_plan.new.store c.settle_given_up.new.store c.follow_plan.ensures.goes c.settle_given_up.ensures.goes) c.serve_all.ensures.goes
