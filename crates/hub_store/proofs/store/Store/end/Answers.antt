use Rattle.hub_store.specs.Plain.{trail_of}
use Rattle.hub_store.specs.Trail.{of_part}
use Rattle.hub_store.specs.Ways.{way_of}
use Rattle.hub_store.proofs.EveryMoment.{every_moment}
use Rattle.hub_store.proofs.Shortness.{short_read}
use Rattle.site_model.specs.History.{changes_of}
use Rattle.hub_store.proofs.store.Store.end.Goals as goal

pub returns-clause-every : goal.returns-clause-every
returns-clause-every g c tells = every_moment (c.requires.told tells).runs

pub returns-clause-whole : goal.returns-clause-whole
returns-clause-whole g c tells whole = (c.requires.told tells).rests whole

pub returns-clause-short : goal.returns-clause-short
returns-clause-short g c tells p below =
    let o = g.N.Start.origin in
    let self = c.args.self in
    let fits = (c.requires.told tells).logs p below in
    short_read (o.logs p).file self.segment (o.logs p).header fits.payloads (of_part p (trail_of self.trail.items)) (changes_of (o.logs p).file (g.V.Site.history self.site)) (way_of self.ways.items p) fits.fits (c.requires.short tells p below)
