use Rattle.std.proofs.Common.{Err, ap, true, false, ◌∙◌}
use Rattle.crossing_tests.proofs.Moved.{stands_behind}
use Rattle.crossing_tests.proofs.calls.sync_all.Goals as goal

pub returns-in-Ok : goal.returns-in-Ok
returns-in-Ok g c =
    let e = c.in-Ok.ensures in
    stands_behind c.args.store.now c.sync_all.new.self _ true c.requires.stands e.kept e.keeps e.ledgers e.ok e.trail

pub returns-in-Err-SiteFault : goal.returns-in-Err-SiteFault
returns-in-Err-SiteFault g c =
    let e = c.sync_all.ensures in
    let is = c.in-Err-SiteFault.is ∙ ap Err c.in-Err-SiteFault.field-0-is in
    stands_behind c.args.store.now c.sync_all.new.self _ false c.requires.stands e.kept e.keeps e.ledgers (e.broken is) e.trail
