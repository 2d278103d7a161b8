use Rattle.std.proofs.Common.{◌≤◌, List, sym, subst, arith}
use Rattle.hub_store.specs.Changes.{stage_at, going_at, trail_in, told_in}
use Rattle.hub_store.specs.Trail.{Settled, Said}
use Rattle.hub_store.specs.Ways.{way_of, going_in, stage_of}
use Rattle.gated_store.specs.Kept.{Fits}
use Rattle.gated_store.proofs.Saying.{fits_rises}
use Rattle.gated_store.proofs.store.GatedStore.raise.Goals as goal

pub returns-clause-kept : goal.returns-clause-kept
returns-clause-kept g c =
    let L = g.L.Local in
    let old = c.args.self.now.logs in
    let new = c.raise.new.self in
    let e = c.raise.ensures in
    let list = c.args.self.now.ledgers.items in
    let above : old.latest ≤ new.latest = omega (arith, e.latest) in
    let fits = fits_rises L.origin.count L.ledgers L.readers L.may_make L.later_makes old.latest new.latest (trail_in old) (told_in old) (going_at old) (stage_at old) list above c.requires.kept.fits in
    record {
      sound = e.sound;
      fits = subst (λ (l : List Settled). Fits L.origin.count L.ledgers L.readers L.may_make new.latest l (told_in new) (going_at new) (stage_at new) list) (sym e.trail)
          (subst (λ (t : List Said). Fits L.origin.count L.ledgers L.readers L.may_make new.latest (trail_in old) t (going_at new) (stage_at new) list) (sym e.told)
          (subst (λ (w : _). Fits L.origin.count L.ledgers L.readers L.may_make new.latest (trail_in old) (told_in old) (λ p. going_in (way_of w.items p)) (λ p. stage_of (way_of w.items p)) list) (sym e.ways) fits));
    }
