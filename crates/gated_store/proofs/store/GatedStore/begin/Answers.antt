use Rattle.std.proofs.Common.{refl}
use Rattle.hub_store.specs.Changes.{stage_at, going_at, trail_in, told_in}
use Rattle.hub_store.specs.Ways.{way_of}
use Rattle.hub_store.specs.declared.way.Stage.TheVariants as stages
use Rattle.gated_store.proofs.Moving.{fits_first, rest_none, untried}
use Rattle.gated_store.proofs.store.GatedStore.begin.Goals as goal

pub returns-in-Ok-clause-kept : goal.returns-in-Ok-clause-kept
returns-in-Ok-clause-kept g c =
    let L = g.L.Local in
    let logs = c.in-Ok.logs in
    let e = c.in-Ok.ensures in
    record {
      sound = e.sound;
      fits = fits_first L.origin.count L.ledgers L.readers L.may_make logs.latest (trail_in logs) (told_in logs) (going_at logs) (stage_at logs) c.args.ledgers.items c.requires.many c.requires.first e.trail
          (λ p below. rest_none (way_of logs.ways.items p) (e.rest p below)) c.requires.fits
          (λ p below tried. untried (stage_at logs p) stages.Resting (e.rest p below) refl tried);
    }
