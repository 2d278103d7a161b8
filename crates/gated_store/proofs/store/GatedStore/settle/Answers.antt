use Rattle.std.proofs.Common.{◌≡◌, true, ◌<◌, ℕ, List, length, Option, Some, ◌∙◌, sym, ap, subst, refl, arith}
use Rattle.dura_value.specs.Items.{Item, Entry}
use Rattle.commit_gate.specs.Keeping.{AreOfOne}
use Rattle.commit_gate.specs.Ledgers.{after_items}
use Rattle.commit_gate.specs.Views.{readers_in, whole_of}
use Rattle.hub_store.specs.Changes.{stage_at, going_at, trail_in, told_in}
use Rattle.hub_store.specs.Trail.{of_part}
use Rattle.hub_store.specs.Ways.{going_in, stage_of, way_of, is_tried}
use Rattle.hub_store.specs.Plain.{trail_of}
use Rattle.gated_store.specs.Settled.{items_settled}
use Rattle.gated_store.specs.Kept.{LedgerFits, IsMade, IsMetAt}
use Rattle.gated_store.proofs.Moving.{fits_stay, fits_settles, open_tried, rest_none, row_at, floors_stay}
use Rattle.gated_store.proofs.Settles.{frame_behind, read_behind}
use Rattle.gated_store.proofs.store.GatedStore.settle.Goals as goal

pub settle-requires-clause-follows : goal.settle-requires-clause-follows
settle-requires-clause-follows g c going way gated =
    let L = g.L.Local in
    let p = c.args.part in
    let old = c.args.self.now.logs in
    let was : is_tried (stage_at old p) ≡ true = open_tried c.stage-stage.result (stage_at old p) c.stage-stage.ensures (sym c.is_open.ensures ∙ c.if-not-is_open.false) in
    record {
      makes = subst (IsMade L.may_make old.latest (of_part p (trail_in old)) (told_in old) p) way (c.requires.kept.fits.made p c.requires.place);
      met = subst (IsMetAt L.ledgers (trail_in old) p) way (c.requires.kept.fits.met p c.requires.place was);
    }

pub returns-in-Err-clause-kept : goal.returns-in-Err-clause-kept
returns-in-Err-clause-kept g c =
    let L = g.L.Local in
    let p = c.args.part in
    let old = c.args.self.now.logs in
    let new = c.settle.new.self in
    let was : is_tried (stage_at old p) ≡ true = open_tried c.stage-stage.result (stage_at old p) c.stage-stage.ensures (sym c.is_open.ensures ∙ c.if-not-is_open.false) in
    let e = c.in-Err.ensures in
    record {
      sound = e.sound;
      fits = fits_stay L.origin.count L.ledgers L.readers L.may_make old.latest new.latest (trail_in old) (trail_in new) (told_in old) (told_in new) (going_at old) (going_at new) (stage_at old) (stage_at new) c.args.self.now.ledgers.items c.args.self.now.ledgers.items e.keeps.latest e.keeps.said
          p e.no_trail refl (λ q apart. ap going_in (e.keeps.others q apart)) e.frame (λ q apart. ap stage_of (e.keeps.others q apart)) c.requires.kept.fits (λ tried. c.requires.kept.fits.met p c.requires.place was);
    }

pub settle_ledger-requires-clause-nexts : goal.settle_ledger-requires-clause-nexts
settle_ledger-requires-clause-nexts g c =
    let p = c.args.part in
    let list = c.args.self.now.ledgers.items in
    let kept = c.requires.kept in
    let low : p < length list = omega (arith, kept.fits.many, c.requires.place) in
    let sized = (kept.fits.each p c.index_mut.result.now (row_at list p c.index_mut.result.now low c.index_mut.ensures.value)).sized in
    sized.nexts ∙ sym sized.boxes

pub settle_ledger-requires-clause-readers : goal.settle_ledger-requires-clause-readers
settle_ledger-requires-clause-readers g c =
    let p = c.args.part in
    let list = c.args.self.now.ledgers.items in
    let kept = c.requires.kept in
    let low : p < length list = omega (arith, kept.fits.many, c.requires.place) in
    let sized = (kept.fits.each p c.index_mut.result.now (row_at list p c.index_mut.result.now low c.index_mut.ensures.value)).sized in
    sized.readers ∙ sym sized.boxes

pub settle_ledger-requires-clause-fits : goal.settle_ledger-requires-clause-fits
settle_ledger-requires-clause-fits g c =
    let L = g.L.Local in
    let p = c.args.part in
    let old = c.args.self.now.logs in
    let new = c.settle.new.self in
    let list = c.args.self.now.ledgers.items in
    let kept = c.requires.kept in
    let s = c.in-Ok.ensures.trail in
    let ledger = c.index_mut.result.now in
    let low : p < length list = omega (arith, kept.fits.many, c.requires.place) in
    let here : LedgerFits L.ledgers L.readers L.origin.count p (of_part p (trail_in old)) (Some s.entries) ledger =
    subst (λ (o : Option (List Entry)). LedgerFits L.ledgers L.readers L.origin.count p (of_part p (trail_in old)) o ledger) s.frame (kept.fits.each p ledger (row_at list p ledger low c.index_mut.ensures.value)) in
    let items = frame_behind (trail_in old) (trail_in new) p s.at s.entries c.count-before.result c.settled_from-settled.result.now s.trail c.count-before.ensures c.settled_from-settled.ensures in
    subst (λ (n : ℕ). AreOfOne n (items_settled (trail_of c.settled_from-settled.result.now))) (sym here.sized.boxes) (subst (AreOfOne L.origin.count) (sym items) here.comes.0)

pub returns-clause-kept : goal.returns-clause-kept
returns-clause-kept g c =
    let L = g.L.Local in
    let p = c.args.part in
    let old = c.args.self.now.logs in
    let new = c.settle.new.self in
    let list = c.args.self.now.ledgers.items in
    let kept = c.requires.kept in
    let e = c.in-Ok.ensures in
    let s = c.in-Ok.ensures.trail in
    let ledger = c.index_mut.result.now in
    let was : is_tried (stage_at old p) ≡ true = open_tried c.stage-stage.result (stage_at old p) c.stage-stage.ensures (sym c.is_open.ensures ∙ c.if-not-is_open.false) in
    let low : p < length list = omega (arith, kept.fits.many, c.requires.place) in
    let here : LedgerFits L.ledgers L.readers L.origin.count p (of_part p (trail_in old)) (Some s.entries) ledger =
    subst (λ (o : Option (List Entry)). LedgerFits L.ledgers L.readers L.origin.count p (of_part p (trail_in old)) o ledger) s.frame (kept.fits.each p ledger (row_at list p ledger low c.index_mut.ensures.value)) in
    let items = frame_behind (trail_in old) (trail_in new) p s.at s.entries c.count-before.result c.settled_from-settled.result.now s.trail c.count-before.ensures c.settled_from-settled.ensures in
    record {
      sound = e.sound;
      fits = fits_settles L.origin.count L.ledgers L.readers L.may_make old.latest new.latest (trail_in old) (trail_in new) (told_in old) (told_in new) (going_at old) (going_at new) (stage_at old) (stage_at new) list _ e.keeps.latest e.keeps.said
          L.goes p s.at s.entries ledger c.settle_ledger.new.ledger c.requires.place s.trail refl (λ q apart. ap going_in (e.keeps.others q apart)) (λ q apart. ap stage_of (e.keeps.others q apart)) s.frame was
          (rest_none (way_of new.ways.items p) e.ok) e.ok kept.fits here c.settle_ledger.ensures.places
          (c.settle_ledger.ensures.readers ∙ read_behind (trail_in old) (trail_in new) p s.at s.entries c.count-before.result c.settled_from-settled.result.now (readers_in ledger) s.trail c.count-before.ensures c.settled_from-settled.ensures)
          (c.settle_ledger.ensures.settled ∙ ap (λ (l : List Item). after_items l (whole_of ledger)) items) c.settle_ledger.ensures.whole;
    }

pub returns-clause-keeps : goal.returns-clause-keeps
returns-clause-keeps g c = record { logs = c.in-Ok.ensures.keeps; floors = floors_stay c.args.self.now.ledgers.items _ c.args.part c.index_mut.result.now c.settle_ledger.new.ledger refl c.index_mut.ensures.value c.settle_ledger.ensures.places.floors }
