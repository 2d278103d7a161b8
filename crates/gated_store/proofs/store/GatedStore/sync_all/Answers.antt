use Rattle.std.proofs.Common.{◌∙◌, subst, ap, true, false, Err}
use Rattle.hub_store.specs.declared.refusal.SyncRefusal.{SyncRefusal}
use Rattle.hub_store.specs.Changes.{stage_at, going_at, trail_in, told_in}
use Rattle.hub_store.specs.Trail.{of_part}
use Rattle.hub_store.specs.Ways.{is_tried}
use Rattle.gated_store.specs.Kept.{IsMade, IsMetAt}
use Rattle.gated_store.proofs.Moving.{fits_behind}
use Rattle.gated_store.proofs.store.GatedStore.sync_all.Goals as goal

pub sync_all-requires-clause-follows : goal.sync_all-requires-clause-follows
sync_all-requires-clause-follows g c p below going way gated =
    let L = g.L.Local in
    let old = c.args.self.now.logs in
    record {
      makes = subst (IsMade L.may_make old.latest (of_part p (trail_in old)) (told_in old) p) way (c.requires.kept.fits.made p below);
      met = subst (IsMetAt L.ledgers (trail_in old) p) way (c.requires.kept.fits.met p below (ap is_tried gated));
    }

pub returns-in-Ok-clause-kept : goal.returns-in-Ok-clause-kept
returns-in-Ok-clause-kept g c =
    let L = g.L.Local in
    let old = c.args.self.now.logs in
    let new = c.sync_all.new.self in
    let e = c.in-Ok.ensures in
    record {
      sound = e.sound;
      fits = fits_behind L.origin.count L.ledgers L.readers L.may_make old.latest new.latest (trail_in old) (trail_in new) (told_in old) (told_in new) (going_at old) (going_at new) (stage_at old) (stage_at new) c.args.self.now.ledgers.items e.keeps.latest e.keeps.said e.trail e.frames true e.ok c.requires.kept.fits;
    }

pub returns-in-Err-SiteFault-clause-kept : goal.returns-in-Err-SiteFault-clause-kept
returns-in-Err-SiteFault-clause-kept g c =
    let L = g.L.Local in
    let old = c.args.self.now.logs in
    let new = c.sync_all.new.self in
    let e = c.sync_all.ensures in
    record {
      sound = e.sound;
      fits = fits_behind L.origin.count L.ledgers L.readers L.may_make old.latest new.latest (trail_in old) (trail_in new) (told_in old) (told_in new) (going_at old) (going_at new) (stage_at old) (stage_at new) c.args.self.now.ledgers.items e.keeps.latest e.keeps.said e.trail e.frames false
          (e.broken (c.in-Err-SiteFault.is ∙ ap (λ (why : SyncRefusal). Err why) c.in-Err-SiteFault.field-0-is)) c.requires.kept.fits;
    }
