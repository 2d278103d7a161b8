use Rattle.round_steps.proofs.Counts.{counted_still}
use Rattle.hub_store.specs.Changes.{trail_in}
use Rattle.round_steps.proofs.Goes.{goes_then}
use Rattle.engine_rounds.proofs.driving.give_up.Goals as goal

pub returns-clause-counted : goal.returns-clause-counted
returns-clause-counted g c = counted_still (trail_in c.own_all.new.store.logs) (trail_in c.serve_reached.new.store.logs) c.own_all.new.course.seen c.serve_reached.new.course.seen c.in_ok-own_all.ensures.counted c.serve_reached.ensures.seen c.serve_reached.ensures.trail
