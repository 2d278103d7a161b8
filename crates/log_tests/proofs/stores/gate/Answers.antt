use Rattle.std.proofs.Common.{Err, sym, ap, subst, ◌∙◌}
use Rattle.log_tests.specs.Stores.{IsGoing}
use Rattle.log_tests.proofs.Going.{goes_still}
use Rattle.log_tests.proofs.stores.gate.Goals as goal

pub returns-in-Ok : goal.returns-in-Ok
returns-in-Ok g c =
    let e = c.in-Ok.ensures in record {
      sound = e.sound;
      unhalted = e.still;
      goes = goes_still c.args.store.now c.gate.new.self c.args.position c.requires.goes e.keeps.whole e.trail e.frame;
    }

pub returns-in-Err-NoFrame : goal.returns-in-Err-NoFrame
returns-in-Err-NoFrame g c =
    let same = c.gate.ensures.unchanged (c.in-Err-NoFrame.is ∙ ap Err c.in-Err-NoFrame.field-0-is) in
    subst (λ s. IsGoing s c.args.position) (sym same) c.requires

pub returns-in-Err-SiteFault : goal.returns-in-Err-SiteFault
returns-in-Err-SiteFault g c =
    let e = c.in-Err-SiteFault.ensures in record {
      sound = e.sound;
      goes = goes_still c.args.store.now c.gate.new.self c.args.position c.requires.goes e.keeps.whole e.trail e.frame;
    }
