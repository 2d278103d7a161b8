use Rattle.std.proofs.Common.{ap, refl}
use Rattle.commit_gate.specs.Views.{floors_of}
use Rattle.hub_store.specs.Changes.{stage_at, going_at, trail_in, told_in}
use Rattle.hub_store.specs.Ways.{going_in, stage_of}
use Rattle.gated_store.proofs.Moving.{fits_stay, met_at}
use Rattle.gated_store.proofs.store.GatedStore.gate.Goals as goal

pub returns-in-Ok-clause-kept : goal.returns-in-Ok-clause-kept
returns-in-Ok-clause-kept g c =
    let L = g.L.Local in
    let p = c.args.part in
    let old = c.args.self.now.logs in
    let new = c.gate.new.self in
    let e = c.gate.ensures in
    let keeps = e.keeps in
    record {
      sound = e.sound;
      fits = fits_stay L.origin.count L.ledgers L.readers L.may_make old.latest new.latest (trail_in old) (trail_in new) (told_in old) (told_in new) (going_at old) (going_at new) (stage_at old) (stage_at new) c.args.self.now.ledgers.items c.args.self.now.ledgers.items keeps.latest keeps.said
          p e.trail refl (λ q apart. ap going_in (keeps.others q apart)) e.frame (λ q apart. ap stage_of (keeps.others q apart)) c.requires.kept.fits
          (λ tried. met_at L.ledgers (floors_of c.args.self.now.ledgers.items) (trail_in old) p (going_at old p) c.in_default-test.ensures.ok);
    }

pub returns-in-Err-SiteFault-clause-kept : goal.returns-in-Err-SiteFault-clause-kept
returns-in-Err-SiteFault-clause-kept g c =
    let L = g.L.Local in
    let p = c.args.part in
    let old = c.args.self.now.logs in
    let new = c.gate.new.self in
    let e = c.gate.ensures in
    let keeps = e.keeps in
    record {
      sound = e.sound;
      fits = fits_stay L.origin.count L.ledgers L.readers L.may_make old.latest new.latest (trail_in old) (trail_in new) (told_in old) (told_in new) (going_at old) (going_at new) (stage_at old) (stage_at new) c.args.self.now.ledgers.items c.args.self.now.ledgers.items keeps.latest keeps.said
          p e.trail refl (λ q apart. ap going_in (keeps.others q apart)) e.frame (λ q apart. ap stage_of (keeps.others q apart)) c.requires.kept.fits
          (λ tried. met_at L.ledgers (floors_of c.args.self.now.ledgers.items) (trail_in old) p (going_at old p) c.in_default-test.ensures.ok);
    }
