use Rattle.std.proofs.Common.{◌≡◌, Err, sym, ap, subst, ◌∙◌}
use Rattle.hub_store.specs.Frames.{goes_on}
use Rattle.hub_store.specs.Trail.{of_part}
use Rattle.log_tests.specs.Stores.{next_at, IsAt}
use Rattle.log_tests.proofs.Going.{goes_still, goes_rests}
use Rattle.log_tests.proofs.stores.drop_frame.Goals as goal

pub returns-in-Ok : goal.returns-in-Ok
returns-in-Ok g c =
    let position = c.args.position in
    let e = c.in-Ok.ensures in
    let goes = c.requires.failed.goes in
    let next = subst (λ settled. goes_on (g.N.Start.origin.logs 0) (of_part 0 settled) ≡ next_at position) (sym e.trail) goes.next in record {
      sound = e.sound;
      unhalted = e.still;
      goes = goes_rests c.args.store.now c.drop_frame.new.self position position goes e.keeps.whole next e.ok;
    }

pub returns-in-Err-NoFrame : goal.returns-in-Err-NoFrame
returns-in-Err-NoFrame g c =
    let same = c.drop_frame.ensures.unchanged (c.in-Err-NoFrame.is ∙ ap Err c.in-Err-NoFrame.field-0-is) in
    subst (λ s. IsAt s c.args.place) (sym same) c.requires.place

pub returns-in-Err-SiteFault : goal.returns-in-Err-SiteFault
returns-in-Err-SiteFault g c =
    let e = c.in-Err-SiteFault.ensures in record {
      sound = e.sound;
      goes = goes_still c.args.store.now c.drop_frame.new.self c.args.position c.requires.failed.goes e.keeps.whole e.trail e.frame;
    }
