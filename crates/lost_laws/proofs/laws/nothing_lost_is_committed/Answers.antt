use Rattle.hub_store.specs.Changes.{stage_at, going_at, trail_in, told_in}
use Rattle.lost_laws.proofs.Lost.{settled_none, gated_none, tried_below}
use Rattle.lost_laws.proofs.laws.nothing_lost_is_committed.Goals as goal

pub returns-clause-settled : goal.returns-clause-settled
returns-clause-settled g c =
    let L = g.L.Local in
    let logs = c.args.store.now.logs in
    settled_none L.origin.count L.ledgers L.readers L.may_make L.goes logs.latest (trail_in logs) (told_in logs) (going_at logs) (stage_at logs) c.args.store.now.ledgers.items c.requires.fits

pub returns-clause-gated : goal.returns-clause-gated
returns-clause-gated g c p at going entry tried way there =
    let L = g.L.Local in
    let logs = c.args.store.now.logs in
    let below = tried_below L.origin.count p logs.ways.items c.requires.sound.count tried in
    gated_none L.origin.count L.ledgers L.readers L.may_make L.goes logs.latest (trail_in logs) (told_in logs) (going_at logs) (stage_at logs) c.args.store.now.ledgers.items c.requires.fits p at going entry below tried way there
