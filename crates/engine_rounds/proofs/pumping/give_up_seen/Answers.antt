use Rattle.std.proofs.Common.{ap, arith}
use Rattle.engine_rounds.proofs.Adding.{counts_more}
use Rattle.hub_store.specs.Changes.{trail_in}
use Rattle.round_steps.proofs.Counts.{counted_still}
use Rattle.round_steps.specs.declared.course.Seen.{Seen}
use Rattle.engine_rounds.proofs.pumping.give_up_seen.Goals as goal

pub returns-then-labels-gt0-clause-counted : goal.returns-then-labels-gt0-clause-counted
returns-then-labels-gt0-clause-counted g c = counted_still (trail_in c.own_all.new.store.logs) (trail_in c.serve_reached.new.store.logs) c.own_all.new.course.seen c.serve_reached.new.course.seen c.in_ok-own_all.ensures.counted c.serve_reached.ensures.seen c.serve_reached.ensures.trail

pub returns-else-labels-gt0-clause-counted : goal.returns-else-labels-gt0-clause-counted
returns-else-labels-gt0-clause-counted g c = counted_still (trail_in c.own_all.new.store.logs) (trail_in c.serve_reached.new.store.logs) c.own_all.new.course.seen c.serve_reached.new.course.seen c.in_ok-own_all.ensures.counted c.serve_reached.ensures.seen c.serve_reached.ensures.trail

pub overflow_sub-labels : goal.overflow_sub-labels
overflow_sub-labels g c =
    let more = counts_more g.M.Picked.rules _ _ (trail_in c.args.store.now.logs) (trail_in c.own_all.new.store.logs) c.args.course.now.seen c.own_all.new.course.seen c.requires.counted c.in_ok-own_all.ensures.counted c.own_all.ensures.goes.grows.grows in
    let same = ap (λ (s : Seen). s.labels) c.serve_reached.ensures.seen in
    omega (arith, more, same)

pub returns-else-labels-gt0-clause-adds : goal.returns-else-labels-gt0-clause-adds
returns-else-labels-gt0-clause-adds g c =
    let more = counts_more g.M.Picked.rules _ _ (trail_in c.args.store.now.logs) (trail_in c.own_all.new.store.logs) c.args.course.now.seen c.own_all.new.course.seen c.requires.counted c.in_ok-own_all.ensures.counted c.own_all.ensures.goes.grows.grows in
    let same = ap (λ (s : Seen). s.labels) c.serve_reached.ensures.seen in
    let counted = counted_still (trail_in c.own_all.new.store.logs) (trail_in c.serve_reached.new.store.logs) c.own_all.new.course.seen c.serve_reached.new.course.seen c.in_ok-own_all.ensures.counted c.serve_reached.ensures.seen c.serve_reached.ensures.trail in
    let before = c.requires.counted.labels in
    let now = counted.labels in
    let none = c.if-labels-gt0.false in
    omega (arith, more, same, before, now, none)
