use Rattle.std.proofs.Common.{◌≡◌, Ok, Err, sym, ap, subst, ◌+◌, ◌∙◌}
use Rattle.hub_store.specs.Changes.{trail_in, going_at}
use Rattle.hub_store.specs.Frames.{goes_on}
use Rattle.hub_store.specs.Trail.{of_part}
use Rattle.log_tests.specs.Stores.{next_at, IsAt}
use Rattle.log_tests.proofs.Going.{next_after, goes_still, goes_rests}
use Rattle.log_tests.proofs.stores.reopen.Goals as goal

pub returns-in-Ok-Settled : goal.returns-in-Ok-Settled
returns-in-Ok-Settled g c =
    let old = c.args.store.now in
    let now = c.reopen.new.self in
    let e = c.in-Ok-Settled.ensures in
    let settled = c.reopen.ensures.settled (c.in-Ok-Settled.is ∙ ap Ok c.in-Ok-Settled.field-0-is) in
    let goes = c.requires.failed.goes in
    let next = next_after _ (g.N.Start.origin.logs 0) _ (going_at old 0) (trail_in old) (trail_in now) c.args.position settled goes.frame goes.next in record {
      sound = e.sound;
      unhalted = e.still;
      goes = goes_rests old now c.args.position (c.args.position + 1) goes e.keeps.whole next e.ok;
    }

pub returns-in-Ok-Dropped : goal.returns-in-Ok-Dropped
returns-in-Ok-Dropped g c =
    let position = c.args.position in
    let e = c.in-Ok-Dropped.ensures in
    let same = c.reopen.ensures.dropped (c.in-Ok-Dropped.is ∙ ap Ok c.in-Ok-Dropped.field-0-is) in
    let goes = c.requires.failed.goes in
    let next = subst (λ settled. goes_on (g.N.Start.origin.logs 0) (of_part 0 settled) ≡ next_at position) (sym same) goes.next in record {
      sound = e.sound;
      unhalted = e.still;
      goes = goes_rests c.args.store.now c.reopen.new.self position position goes e.keeps.whole next e.ok;
    }

pub returns-in-Err-NoFrame : goal.returns-in-Err-NoFrame
returns-in-Err-NoFrame g c =
    let same = c.reopen.ensures.unchanged (c.in-Err-NoFrame.is ∙ ap Err c.in-Err-NoFrame.field-0-is) in
    subst (λ s. IsAt s c.args.place) (sym same) c.requires.place

pub returns-in-Err-SiteFault : goal.returns-in-Err-SiteFault
returns-in-Err-SiteFault g c =
    let e = c.in-Err-SiteFault.ensures in record {
      sound = e.sound;
      goes = goes_still c.args.store.now c.reopen.new.self c.args.position c.requires.failed.goes e.keeps.whole e.no_trail e.frame;
    }
