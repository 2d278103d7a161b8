use Rattle.gated_store.proofs.Grounds.{trail_causal}
use Rattle.gated_store.proofs.Moving.{known_unlost}
use Rattle.gated_store.proofs.Uncut.{uncut}
use Rattle.hub_store.specs.Changes.{stage_at, going_at, trail_in, told_in}
use Rattle.gated_store.proofs.store.GatedStore.holds.Goals as goal

pub returns-clause-causal : goal.returns-clause-causal
returns-clause-causal g c = let L = g.L.Local in trail_causal L.ledgers L.may_make L.goes c.requires.fits.first c.requires.fits.grown

pub returns-clause-unlost : goal.returns-clause-unlost
returns-clause-unlost g c e below known =
    let L = g.L.Local in
    let logs = c.args.self.now.logs in
    known_unlost L.origin.count L.ledgers L.readers L.may_make logs.latest (trail_in logs) (told_in logs) (going_at logs) (stage_at logs) c.args.self.now.ledgers.items c.requires.fits e below known

pub returns-clause-uncut : goal.returns-clause-uncut
returns-clause-uncut g c p going below way =
    let L = g.L.Local in
    let logs = c.args.self.now.logs in
    uncut L.origin.count L.ledgers L.readers L.may_make L.goes logs.latest (trail_in logs) (told_in logs) (going_at logs) (stage_at logs) c.args.self.now.ledgers.items c.requires.fits p going below way
