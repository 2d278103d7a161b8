use Rattle.std.proofs.Common.{ap, arith}
use Rattle.engine_rounds.proofs.Adding.{counts_more}
use Rattle.hub_store.specs.Changes.{trail_in}
use Rattle.round_steps.proofs.Counts.{counted_still}
use Rattle.round_steps.specs.declared.course.Seen.{Seen}
use Rattle.engine_rounds.proofs.pumping.push.Goals as goal

pub step_and_commit-requires-clause-counted : goal.step_and_commit-requires-clause-counted
step_and_commit-requires-clause-counted g c = counted_still (trail_in c.args.store.now.logs) (trail_in c.gather.new.store.logs) c.args.course.now.seen c.gather.new.course.seen c.requires.counted c.gather.ensures.seen c.gather.ensures.trail

pub returns-clause-counted : goal.returns-clause-counted
returns-clause-counted g c = counted_still (trail_in c.step_and_commit.new.store.logs) (trail_in c.serve_reached.new.store.logs) c.step_and_commit.new.course.seen c.serve_reached.new.course.seen c.in_ok-turned.ensures.counted c.serve_reached.ensures.seen c.serve_reached.ensures.trail

pub overflow_sub-labels : goal.overflow_sub-labels
overflow_sub-labels g c =
    let h = c.step_and_commit.ensures in
    let begin = counted_still (trail_in c.args.store.now.logs) (trail_in c.gather.new.store.logs) c.args.course.now.seen c.gather.new.course.seen c.requires.counted c.gather.ensures.seen c.gather.ensures.trail in
    let more = counts_more g.M.Picked.rules _ _ (trail_in c.gather.new.store.logs) (trail_in c.step_and_commit.new.store.logs) c.gather.new.course.seen c.step_and_commit.new.course.seen begin c.in_ok-turned.ensures.counted h.goes.grows.grows in
    let one = ap (λ (s : Seen). s.labels) c.gather.ensures.seen in
    let two = ap (λ (s : Seen). s.labels) c.serve_reached.ensures.seen in
    omega (arith, more, one, two)

pub returns-clause-adds : goal.returns-clause-adds
returns-clause-adds g c =
    let h = c.step_and_commit.ensures in
    let begin = counted_still (trail_in c.args.store.now.logs) (trail_in c.gather.new.store.logs) c.args.course.now.seen c.gather.new.course.seen c.requires.counted c.gather.ensures.seen c.gather.ensures.trail in
    let more = counts_more g.M.Picked.rules _ _ (trail_in c.gather.new.store.logs) (trail_in c.step_and_commit.new.store.logs) c.gather.new.course.seen c.step_and_commit.new.course.seen begin c.in_ok-turned.ensures.counted h.goes.grows.grows in
    let one = ap (λ (s : Seen). s.labels) c.gather.ensures.seen in
    let two = ap (λ (s : Seen). s.labels) c.serve_reached.ensures.seen in
    let counted = counted_still (trail_in c.step_and_commit.new.store.logs) (trail_in c.serve_reached.new.store.logs) c.step_and_commit.new.course.seen c.serve_reached.new.course.seen c.in_ok-turned.ensures.counted c.serve_reached.ensures.seen c.serve_reached.ensures.trail in
    let before = c.requires.counted.labels in
    let now = counted.labels in
    omega (arith, more, one, two, before, now)
