use Rattle.std.proofs.Common.{Err, sym, ap, subst, ◌+◌, ◌∙◌, length}
use Rattle.site_memory.specs.Memory.{memory_history}
use Rattle.hub_store.specs.Changes.{trail_in, going_at}
use Rattle.log_tests.specs.Stores.{IsGoing}
use Rattle.log_tests.proofs.Going.{next_after, goes_still, goes_rests}
use Rattle.log_tests.proofs.stores.settle.Goals as goal

pub returns-in-Ok : goal.returns-in-Ok
returns-in-Ok g c =
    let old = c.args.store.now in
    let now = c.settle.new.self in
    let e = c.in-Ok.ensures in
    let goes = c.requires.going.goes in
    let next = next_after (Unit {0}) (g.N.Start.origin.logs 0) (length (memory_history now.site)) (going_at old 0) (trail_in old) (trail_in now) c.args.position e.trail goes.frame goes.next in record {
      sound = e.sound;
      unhalted = e.still;
      goes = goes_rests old now c.args.position (c.args.position + 1) goes e.keeps.whole next e.ok;
    }

pub returns-in-Err-NoFrame : goal.returns-in-Err-NoFrame
returns-in-Err-NoFrame g c =
    let same = c.settle.ensures.unchanged (c.in-Err-NoFrame.is ∙ ap Err c.in-Err-NoFrame.field-0-is) in
    subst (λ s. IsGoing s c.args.position) (sym same) c.requires.going

pub returns-in-Err-SiteFault : goal.returns-in-Err-SiteFault
returns-in-Err-SiteFault g c =
    let e = c.in-Err-SiteFault.ensures in record {
      sound = e.sound;
      goes = goes_still c.args.store.now c.settle.new.self c.args.position c.requires.going.goes e.keeps.whole e.no_trail e.frame;
    }
