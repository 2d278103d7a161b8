use Rattle.std.proofs.Common.{◌∙◌, sym, ap, refl}
use Rattle.hub_store.specs.Changes.{stage_at, going_at, trail_in, told_in}
use Rattle.hub_store.specs.Ways.{going_in, stage_of, is_tried}
use Rattle.hub_store.specs.declared.way.Stage.TheVariants as stages
use Rattle.gated_store.proofs.Moving.{fits_stay, still_untried}
use Rattle.gated_store.proofs.store.GatedStore.sync_body.Goals as goal

pub returns-clause-kept : goal.returns-clause-kept
returns-clause-kept g c =
    let L = g.L.Local in
    let p = c.args.part in
    let old = c.args.self.now.logs in
    let new = c.sync_body.new.self in
    let e = c.sync_body.ensures in
    let keeps = e.keeps in
    let at = sym c.stage.ensures ∙ c.in-Bodied.is in
    record {
      sound = e.sound;
      fits = fits_stay L.origin.count L.ledgers L.readers L.may_make old.latest new.latest (trail_in old) (trail_in new) (told_in old) (told_in new) (going_at old) (going_at new) (stage_at old) (stage_at new) c.args.self.now.ledgers.items c.args.self.now.ledgers.items keeps.latest keeps.said
          p e.trail refl (λ q apart. ap going_in (keeps.others q apart)) e.frame (λ q apart. ap stage_of (keeps.others q apart)) c.requires.kept.fits
          (λ tried. absurd (still_untried c.sync_body.result (stage_at new p) (stage_at old p) stages.Synced refl (ap is_tried at) e.ok e.broken (λ none. ap (λ (s : _). stage_at s p) (e.unchanged none)) tried));
    }
