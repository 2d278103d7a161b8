use Rattle.std.proofs.Common.{◌<◌, List, length, Option, sym, ap, subst, refl, arith}
use Rattle.dura_value.specs.Items.{Entry}
use Rattle.hub_store.specs.Changes.{stage_at, going_at, trail_in, told_in}
use Rattle.hub_store.specs.Trail.{of_part}
use Rattle.hub_store.specs.Ways.{going_in, stage_of, way_of}
use Rattle.hub_store.specs.declared.way.Stage.TheVariants as stages
use Rattle.gated_store.specs.Kept.{LedgerFits, IsMade}
use Rattle.gated_store.proofs.Moving.{fits_stay, fits_moves, gone_fits, rest_none, row_at, untried, still_dropped, floors_stay}
use Rattle.gated_store.proofs.store.GatedStore.drop_untried.Goals as goal

pub returns-in-Ok-clause-kept : goal.returns-in-Ok-clause-kept
returns-in-Ok-clause-kept g c =
    let L = g.L.Local in
    let p = c.args.part in
    let old = c.args.self.now.logs in
    let new = c.drop_frame.new.self in
    let list = c.args.self.now.ledgers.items in
    let kept = c.requires.kept in
    let e = c.in-Ok.ensures in
    let keeps = e.keeps in
    let ledger = c.index_mut.result.now in
    let d = c.drop_frame-in-Ok.ensures in
    let low : p < length list = omega (arith, kept.fits.many, c.requires.place) in
    let here = kept.fits.each p ledger (row_at list p ledger low c.index_mut.ensures.value) in
    let none = rest_none (way_of new.ways.items p) e.ok in
    let mine = of_part p (trail_in old) in
    record {
      sound = e.sound;
      fits = fits_moves L.origin.count L.ledgers L.readers L.may_make old.latest new.latest (trail_in old) (trail_in new) (told_in old) (told_in new) (going_at old) (going_at new) (stage_at old) (stage_at new) list _ keeps.latest keeps.said
          p c.drop_frame-in-Ok.new.self c.requires.place e.trail refl (λ q apart. ap going_in (keeps.others q apart)) (λ q apart. ap stage_of (keeps.others q apart)) kept.fits
          (subst (λ (o : Option (List Entry)). LedgerFits L.ledgers L.readers L.origin.count p mine o c.drop_frame-in-Ok.new.self) (sym none) (gone_fits L.origin.count L.ledgers L.readers p mine (going_at old p) ledger c.drop_frame-in-Ok.new.self here d.places d.readers d.settled d.whole))
          (subst (λ (o : Option (List Entry)). IsMade L.may_make old.latest mine (told_in old) p o) (sym none) tt)
          (λ tried. absurd (untried (stage_at new p) stages.Resting e.ok refl tried));
    }

pub returns-in-Ok-clause-keeps : goal.returns-in-Ok-clause-keeps
returns-in-Ok-clause-keeps g c = record {
  logs = c.in-Ok.ensures.keeps;
  floors = floors_stay c.args.self.now.ledgers.items _ c.args.part c.index_mut.result.now c.drop_frame-in-Ok.new.self refl c.index_mut.ensures.value c.drop_frame-in-Ok.ensures.places.floors;
}

pub returns-in-Err-clause-kept : goal.returns-in-Err-clause-kept
returns-in-Err-clause-kept g c =
    let L = g.L.Local in
    let p = c.args.part in
    let old = c.args.self.now.logs in
    let new = c.drop_frame.new.self in
    let e = c.in-Err.ensures in
    let keeps = e.keeps in
    record {
      sound = e.sound;
      fits = fits_stay L.origin.count L.ledgers L.readers L.may_make old.latest new.latest (trail_in old) (trail_in new) (told_in old) (told_in new) (going_at old) (going_at new) (stage_at old) (stage_at new) c.args.self.now.ledgers.items c.args.self.now.ledgers.items keeps.latest keeps.said
          p e.trail refl (λ q apart. ap going_in (keeps.others q apart)) e.frame (λ q apart. ap stage_of (keeps.others q apart)) c.requires.kept.fits
          (λ tried. absurd (still_dropped c.in-Err.refusal (stage_at new p) (stage_at old p) e.broken e.no_frame.0 c.requires.untried tried));
    }
