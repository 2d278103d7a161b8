use Rattle.std.proofs.Common.{◌≡◌, ◌≢◌, ◌<◌, ℕ, List, length, Option, None, Some, Err, ◌∙◌, sym, ap, subst, refl, arith}
use Rattle.std.proofs.lemmas.List.{set-set, get_or-set_same}
use Rattle.dura_value.specs.Items.{Entry}
use Rattle.log_items.specs.Plain.{entries_of}
use Rattle.commit_gate.proofs.Rooms.{ok_here}
use Rattle.commit_gate.specs.declared.ledger.Ledger as declared
use Rattle.commit_gate.specs.Room.{HasRoom}
use Rattle.commit_gate.specs.Views.{all_sent, floors_of}
use Rattle.hub_store.specs.Changes.{stage_at, going_at, trail_in, told_in}
use Rattle.hub_store.specs.Trail.{of_part}
use Rattle.hub_store.specs.Ways.{going_in, stage_of, way_of}
use Rattle.hub_store.specs.declared.refusal.Unwritten.{Unwritten}
use Rattle.hub_store.specs.declared.way.Stage.TheVariants as stages
use Rattle.gated_store.specs.Kept.{LedgerFits, IsMade}
use Rattle.gated_store.proofs.Moving.{fits_moves, rest_none, row_at, untried, floors_are, floors_stay}
use Rattle.gated_store.proofs.Written.{frame_is, same_length, room_fits, now_fits, now_short, now_inside, now_room, written_fits}
use Rattle.gated_store.proofs.store.GatedStore.body.Goals as goal

pub returns-then-is_err-clause-kept : goal.returns-then-is_err-clause-kept
returns-then-is_err-clause-kept g c =
    let L = g.L.Local in
    let p = c.args.part in
    let old = c.args.self.now.logs in
    let list = c.args.self.now.ledgers.items in
    let kept = c.requires.kept in
    let mine = of_part p (trail_in old) in
    let before = c.index_mut.result.now in
    let low : p < length list = omega (arith, kept.fits.many, c.requires.place) in
    let here : LedgerFits L.ledgers L.readers L.origin.count p mine (going_at old p) before = kept.fits.each p before (row_at list p before low c.index_mut.ensures.value) in
    let rested : LedgerFits L.ledgers L.readers L.origin.count p mine None before = subst (λ (o : Option (List Entry)). LedgerFits L.ledgers L.readers L.origin.count p mine o before) (rest_none (way_of old.ways.items p) c.requires.rests) here in
    let m = c.make_room.ensures in
    let mid = c.make_room.new.self in
    let new = c.args.self.now.logs in
    let at = c.requires.rests in
    let sound = kept.sound in
    let same_latest : new.latest ≡ old.latest = refl in
    let same_said : told_in new ≡ told_in old = refl in
    let same_trail : trail_in new ≡ trail_in old = refl in
    let others_too : (q : ℕ) → q ≢ p → going_at new q ≡ going_at old q = λ q apart. refl in
    let stages_too : (q : ℕ) → q ≢ p → stage_at new q ≡ stage_at old q = λ q apart. refl in
    let none : going_at new p ≡ None = rest_none (way_of new.ways.items p) at in
    record {
      sound = sound;
      fits = fits_moves L.origin.count L.ledgers L.readers L.may_make old.latest new.latest (trail_in old) (trail_in new) (told_in old) (told_in new) (going_at old) (going_at new) (stage_at old) (stage_at new) list _ same_latest same_said
          p mid c.requires.place same_trail refl others_too stages_too kept.fits
          (subst (λ (o : Option (List Entry)). LedgerFits L.ledgers L.readers L.origin.count p mine o mid) (sym none) (room_fits L.ledgers L.readers L.origin.count p mine before mid rested m.places m.readers m.settled m.whole))
          (subst (IsMade L.may_make old.latest mine (told_in old) p) (sym none) tt)
          (λ tried. absurd (untried (stage_at new p) stages.Resting at refl tried));
    }

pub returns-then-is_err-clause-keeps : goal.returns-then-is_err-clause-keeps
returns-then-is_err-clause-keeps g c = record {
  logs = record { tells = λ told. told; others = λ q apart. refl; said = refl; segment = refl; latest = refl; whole = refl; later = omega arith; say_faults = refl };
  floors = floors_stay c.args.self.now.ledgers.items _ c.args.part c.index_mut.result.now c.make_room.new.self refl c.index_mut.ensures.value c.make_room.ensures.places.floors;
}

pub begin_frame-requires-clause-rests : goal.begin_frame-requires-clause-rests
begin_frame-requires-clause-rests g c =
    let L = g.L.Local in
    let p = c.args.part in
    let old = c.args.self.now.logs in
    let list = c.args.self.now.ledgers.items in
    let kept = c.requires.kept in
    let mine = of_part p (trail_in old) in
    let before = c.index_mut.result.now in
    let low : p < length list = omega (arith, kept.fits.many, c.requires.place) in
    let here : LedgerFits L.ledgers L.readers L.origin.count p mine (going_at old p) before = kept.fits.each p before (row_at list p before low c.index_mut.ensures.value) in
    let rested : LedgerFits L.ledgers L.readers L.origin.count p mine None before = subst (λ (o : Option (List Entry)). LedgerFits L.ledgers L.readers L.origin.count p mine o before) (rest_none (way_of old.ways.items p) c.requires.rests) here in
    let m = c.make_room.ensures in
    let mid = c.make_room.new.self in
    let now = c.index_mut-in-Ok.result.now in
    let is : now ≡ mid = c.index_mut-in-Ok.ensures.value ∙ get_or-set_same list p mid now low in
    (now_fits L.ledgers L.readers L.origin.count p mine before mid rested m.places m.readers m.settled m.whole now is).comes

pub begin_frame-requires-clause-short : goal.begin_frame-requires-clause-short
begin_frame-requires-clause-short g c =
    let L = g.L.Local in
    let p = c.args.part in
    let old = c.args.self.now.logs in
    let list = c.args.self.now.ledgers.items in
    let kept = c.requires.kept in
    let mine = of_part p (trail_in old) in
    let before = c.index_mut.result.now in
    let low : p < length list = omega (arith, kept.fits.many, c.requires.place) in
    let here : LedgerFits L.ledgers L.readers L.origin.count p mine (going_at old p) before = kept.fits.each p before (row_at list p before low c.index_mut.ensures.value) in
    let rested : LedgerFits L.ledgers L.readers L.origin.count p mine None before = subst (λ (o : Option (List Entry)). LedgerFits L.ledgers L.readers L.origin.count p mine o before) (rest_none (way_of old.ways.items p) c.requires.rests) here in
    let m = c.make_room.ensures in
    let mid = c.make_room.new.self in
    let now = c.index_mut-in-Ok.result.now in
    let is : now ≡ mid = c.index_mut-in-Ok.ensures.value ∙ get_or-set_same list p mid now low in
    now_short L.ledgers L.readers L.origin.count p mine before mid rested m.places m.readers m.settled m.whole now is (length c.in-Some.frame.now) (length c.args.frame) (same_length c.in-Some.frame.now c.args.frame (entries_of c.args.frame) (frame_is (going_at c.body.new.self c.args.part) (entries_of c.args.frame) (entries_of c.in-Some.frame.now) c.in-Ok.ensures.ok.1 c.in-Some.ensures) refl) c.requires.numbers

pub begin_frame-requires-clause-inside : goal.begin_frame-requires-clause-inside
begin_frame-requires-clause-inside g c =
    let L = g.L.Local in
    let p = c.args.part in
    let old = c.args.self.now.logs in
    let list = c.args.self.now.ledgers.items in
    let kept = c.requires.kept in
    let mine = of_part p (trail_in old) in
    let before = c.index_mut.result.now in
    let low : p < length list = omega (arith, kept.fits.many, c.requires.place) in
    let here : LedgerFits L.ledgers L.readers L.origin.count p mine (going_at old p) before = kept.fits.each p before (row_at list p before low c.index_mut.ensures.value) in
    let rested : LedgerFits L.ledgers L.readers L.origin.count p mine None before = subst (λ (o : Option (List Entry)). LedgerFits L.ledgers L.readers L.origin.count p mine o before) (rest_none (way_of old.ways.items p) c.requires.rests) here in
    let m = c.make_room.ensures in
    let mid = c.make_room.new.self in
    let now = c.index_mut-in-Ok.result.now in
    let is : now ≡ mid = c.index_mut-in-Ok.ensures.value ∙ get_or-set_same list p mid now low in
    now_inside L.ledgers L.readers L.origin.count p mine before mid rested m.places m.readers m.settled m.whole now is (all_sent c.args.sending.items) c.requires.inside

pub begin_frame-requires-clause-room : goal.begin_frame-requires-clause-room
begin_frame-requires-clause-room g c =
    let L = g.L.Local in
    let p = c.args.part in
    let old = c.args.self.now.logs in
    let list = c.args.self.now.ledgers.items in
    let kept = c.requires.kept in
    let mine = of_part p (trail_in old) in
    let before = c.index_mut.result.now in
    let low : p < length list = omega (arith, kept.fits.many, c.requires.place) in
    let here : LedgerFits L.ledgers L.readers L.origin.count p mine (going_at old p) before = kept.fits.each p before (row_at list p before low c.index_mut.ensures.value) in
    let rested : LedgerFits L.ledgers L.readers L.origin.count p mine None before = subst (λ (o : Option (List Entry)). LedgerFits L.ledgers L.readers L.origin.count p mine o before) (rest_none (way_of old.ways.items p) c.requires.rests) here in
    let m = c.make_room.ensures in
    let mid = c.make_room.new.self in
    let now = c.index_mut-in-Ok.result.now in
    let is : now ≡ mid = c.index_mut-in-Ok.ensures.value ∙ get_or-set_same list p mid now low in
    now_room L.ledgers L.readers L.origin.count p mine before mid rested m.places m.readers m.settled m.whole now is (length c.in-Some.frame.now) (length c.args.frame) (all_sent c.args.sending.items) (same_length c.in-Some.frame.now c.args.frame (entries_of c.args.frame) (frame_is (going_at c.body.new.self c.args.part) (entries_of c.args.frame) (entries_of c.in-Some.frame.now) c.in-Ok.ensures.ok.1 c.in-Some.ensures) refl)
    (subst (λ (n : ℕ). HasRoom mid n (all_sent c.args.sending.items)) (ap length c.entries-count.ensures) (subst (λ (l : List _). HasRoom mid (length c.entries-count.result.now) (all_sent l)) c.deref.ensures.value (ok_here c.make_room.result _ c.if-is_err.false c.is_err.ensures.value m.room)))

pub begin_frame-requires-in-Err-SiteFault-clause-rests : goal.begin_frame-requires-in-Err-SiteFault-clause-rests
begin_frame-requires-in-Err-SiteFault-clause-rests g c =
    let L = g.L.Local in
    let p = c.args.part in
    let old = c.args.self.now.logs in
    let list = c.args.self.now.ledgers.items in
    let kept = c.requires.kept in
    let mine = of_part p (trail_in old) in
    let before = c.index_mut.result.now in
    let low : p < length list = omega (arith, kept.fits.many, c.requires.place) in
    let here : LedgerFits L.ledgers L.readers L.origin.count p mine (going_at old p) before = kept.fits.each p before (row_at list p before low c.index_mut.ensures.value) in
    let rested : LedgerFits L.ledgers L.readers L.origin.count p mine None before = subst (λ (o : Option (List Entry)). LedgerFits L.ledgers L.readers L.origin.count p mine o before) (rest_none (way_of old.ways.items p) c.requires.rests) here in
    let m = c.make_room.ensures in
    let mid = c.make_room.new.self in
    let now = c.index_mut-in-Err-SiteFault.result.now in
    let is : now ≡ mid = c.index_mut-in-Err-SiteFault.ensures.value ∙ get_or-set_same list p mid now low in
    (now_fits L.ledgers L.readers L.origin.count p mine before mid rested m.places m.readers m.settled m.whole now is).comes

pub begin_frame-requires-in-Err-SiteFault-clause-short : goal.begin_frame-requires-in-Err-SiteFault-clause-short
begin_frame-requires-in-Err-SiteFault-clause-short g c =
    let L = g.L.Local in
    let p = c.args.part in
    let old = c.args.self.now.logs in
    let list = c.args.self.now.ledgers.items in
    let kept = c.requires.kept in
    let mine = of_part p (trail_in old) in
    let before = c.index_mut.result.now in
    let low : p < length list = omega (arith, kept.fits.many, c.requires.place) in
    let here : LedgerFits L.ledgers L.readers L.origin.count p mine (going_at old p) before = kept.fits.each p before (row_at list p before low c.index_mut.ensures.value) in
    let rested : LedgerFits L.ledgers L.readers L.origin.count p mine None before = subst (λ (o : Option (List Entry)). LedgerFits L.ledgers L.readers L.origin.count p mine o before) (rest_none (way_of old.ways.items p) c.requires.rests) here in
    let m = c.make_room.ensures in
    let mid = c.make_room.new.self in
    let now = c.index_mut-in-Err-SiteFault.result.now in
    let is : now ≡ mid = c.index_mut-in-Err-SiteFault.ensures.value ∙ get_or-set_same list p mid now low in
    now_short L.ledgers L.readers L.origin.count p mine before mid rested m.places m.readers m.settled m.whole now is (length c.in-Some-frame.frame.now) (length c.args.frame) (same_length c.in-Some-frame.frame.now c.args.frame (entries_of c.args.frame) (frame_is (going_at c.body.new.self c.args.part) (entries_of c.args.frame) (entries_of c.in-Some-frame.frame.now) (c.body.ensures.broken (c.in-Err-SiteFault.is ∙ ap (λ (r : Unwritten). Err r) c.in-Err-SiteFault.field-0-is)).1 c.in-Some-frame.ensures) refl) c.requires.numbers

pub begin_frame-requires-in-Err-SiteFault-clause-inside : goal.begin_frame-requires-in-Err-SiteFault-clause-inside
begin_frame-requires-in-Err-SiteFault-clause-inside g c =
    let L = g.L.Local in
    let p = c.args.part in
    let old = c.args.self.now.logs in
    let list = c.args.self.now.ledgers.items in
    let kept = c.requires.kept in
    let mine = of_part p (trail_in old) in
    let before = c.index_mut.result.now in
    let low : p < length list = omega (arith, kept.fits.many, c.requires.place) in
    let here : LedgerFits L.ledgers L.readers L.origin.count p mine (going_at old p) before = kept.fits.each p before (row_at list p before low c.index_mut.ensures.value) in
    let rested : LedgerFits L.ledgers L.readers L.origin.count p mine None before = subst (λ (o : Option (List Entry)). LedgerFits L.ledgers L.readers L.origin.count p mine o before) (rest_none (way_of old.ways.items p) c.requires.rests) here in
    let m = c.make_room.ensures in
    let mid = c.make_room.new.self in
    let now = c.index_mut-in-Err-SiteFault.result.now in
    let is : now ≡ mid = c.index_mut-in-Err-SiteFault.ensures.value ∙ get_or-set_same list p mid now low in
    now_inside L.ledgers L.readers L.origin.count p mine before mid rested m.places m.readers m.settled m.whole now is (all_sent c.args.sending.items) c.requires.inside

pub begin_frame-requires-in-Err-SiteFault-clause-room : goal.begin_frame-requires-in-Err-SiteFault-clause-room
begin_frame-requires-in-Err-SiteFault-clause-room g c =
    let L = g.L.Local in
    let p = c.args.part in
    let old = c.args.self.now.logs in
    let list = c.args.self.now.ledgers.items in
    let kept = c.requires.kept in
    let mine = of_part p (trail_in old) in
    let before = c.index_mut.result.now in
    let low : p < length list = omega (arith, kept.fits.many, c.requires.place) in
    let here : LedgerFits L.ledgers L.readers L.origin.count p mine (going_at old p) before = kept.fits.each p before (row_at list p before low c.index_mut.ensures.value) in
    let rested : LedgerFits L.ledgers L.readers L.origin.count p mine None before = subst (λ (o : Option (List Entry)). LedgerFits L.ledgers L.readers L.origin.count p mine o before) (rest_none (way_of old.ways.items p) c.requires.rests) here in
    let m = c.make_room.ensures in
    let mid = c.make_room.new.self in
    let now = c.index_mut-in-Err-SiteFault.result.now in
    let is : now ≡ mid = c.index_mut-in-Err-SiteFault.ensures.value ∙ get_or-set_same list p mid now low in
    now_room L.ledgers L.readers L.origin.count p mine before mid rested m.places m.readers m.settled m.whole now is (length c.in-Some-frame.frame.now) (length c.args.frame) (all_sent c.args.sending.items) (same_length c.in-Some-frame.frame.now c.args.frame (entries_of c.args.frame) (frame_is (going_at c.body.new.self c.args.part) (entries_of c.args.frame) (entries_of c.in-Some-frame.frame.now) (c.body.ensures.broken (c.in-Err-SiteFault.is ∙ ap (λ (r : Unwritten). Err r) c.in-Err-SiteFault.field-0-is)).1 c.in-Some-frame.ensures) refl)
    (subst (λ (n : ℕ). HasRoom mid n (all_sent c.args.sending.items)) (ap length c.entries-count.ensures) (subst (λ (l : List _). HasRoom mid (length c.entries-count.result.now) (all_sent l)) c.deref.ensures.value (ok_here c.make_room.result _ c.if-is_err.false c.is_err.ensures.value m.room)))

pub returns-in-Some-clause-kept : goal.returns-in-Some-clause-kept
returns-in-Some-clause-kept g c =
    let L = g.L.Local in
    let p = c.args.part in
    let old = c.args.self.now.logs in
    let list = c.args.self.now.ledgers.items in
    let kept = c.requires.kept in
    let mine = of_part p (trail_in old) in
    let before = c.index_mut.result.now in
    let low : p < length list = omega (arith, kept.fits.many, c.requires.place) in
    let here : LedgerFits L.ledgers L.readers L.origin.count p mine (going_at old p) before = kept.fits.each p before (row_at list p before low c.index_mut.ensures.value) in
    let rested : LedgerFits L.ledgers L.readers L.origin.count p mine None before = subst (λ (o : Option (List Entry)). LedgerFits L.ledgers L.readers L.origin.count p mine o before) (rest_none (way_of old.ways.items p) c.requires.rests) here in
    let m = c.make_room.ensures in
    let mid = c.make_room.new.self in
    let now = c.index_mut-in-Ok.result.now in
    let is : now ≡ mid = c.index_mut-in-Ok.ensures.value ∙ get_or-set_same list p mid now low in
    let new = c.body.new.self in
    let e = c.body.ensures in
    let keeps = e.keeps in
    let last = c.begin_frame.new.self in
    let b = c.begin_frame.ensures in
    let way : going_at new p ≡ Some (entries_of c.args.frame) = c.in-Ok.ensures.ok.1 in
    let at : stage_at new p ≡ stages.Bodied = c.in-Ok.ensures.ok.0 in
    record {
      sound = e.sound;
      fits = fits_moves L.origin.count L.ledgers L.readers L.may_make old.latest new.latest (trail_in old) (trail_in new) (told_in old) (told_in new) (going_at old) (going_at new) (stage_at old) (stage_at new) list _ keeps.latest keeps.said
          p last c.requires.place e.trail (set-set list p mid last) (λ q apart. ap going_in (keeps.others q apart)) (λ q apart. ap stage_of (keeps.others q apart)) kept.fits
          (subst (λ (o : Option (List Entry)). LedgerFits L.ledgers L.readers L.origin.count p mine o last) (sym way)
          (written_fits L.ledgers L.readers L.origin.count p mine before mid rested m.places m.readers m.settled m.whole now is last (entries_of c.in-Some.frame.now) (entries_of c.args.frame) (all_sent c.args.sending.items) (floors_of list p) (sym (frame_is (going_at c.body.new.self c.args.part) (entries_of c.args.frame) (entries_of c.in-Some.frame.now) c.in-Ok.ensures.ok.1 c.in-Some.ensures)) b.places b.readers b.settled b.whole c.requires.fits c.requires.makes
          (floors_are list p before low c.index_mut.ensures.value) c.requires.unlost))
          (subst (IsMade L.may_make old.latest mine (told_in old) p) (sym way) c.requires.may)
          (λ tried. absurd (untried (stage_at new p) stages.Bodied at refl tried));
    }

pub returns-in-Some-clause-keeps : goal.returns-in-Some-clause-keeps
returns-in-Some-clause-keeps g c =
    let L = g.L.Local in
    let p = c.args.part in
    let old = c.args.self.now.logs in
    let list = c.args.self.now.ledgers.items in
    let kept = c.requires.kept in
    let mine = of_part p (trail_in old) in
    let before = c.index_mut.result.now in
    let low : p < length list = omega (arith, kept.fits.many, c.requires.place) in
    let here : LedgerFits L.ledgers L.readers L.origin.count p mine (going_at old p) before = kept.fits.each p before (row_at list p before low c.index_mut.ensures.value) in
    let rested : LedgerFits L.ledgers L.readers L.origin.count p mine None before = subst (λ (o : Option (List Entry)). LedgerFits L.ledgers L.readers L.origin.count p mine o before) (rest_none (way_of old.ways.items p) c.requires.rests) here in
    let m = c.make_room.ensures in
    let mid = c.make_room.new.self in
    let now = c.index_mut-in-Ok.result.now in
    let is : now ≡ mid = c.index_mut-in-Ok.ensures.value ∙ get_or-set_same list p mid now low in
    let last = c.begin_frame.new.self in
    record {
      logs = c.body.ensures.keeps;
      floors = floors_stay list _ p before last (set-set list p mid last) c.index_mut.ensures.value (c.begin_frame.ensures.places.floors ∙ ap (λ (l : declared.Ledger). l.floors) is ∙ m.places.floors);
    }

pub returns-in-Some-frame-clause-kept : goal.returns-in-Some-frame-clause-kept
returns-in-Some-frame-clause-kept g c =
    let L = g.L.Local in
    let p = c.args.part in
    let old = c.args.self.now.logs in
    let list = c.args.self.now.ledgers.items in
    let kept = c.requires.kept in
    let mine = of_part p (trail_in old) in
    let before = c.index_mut.result.now in
    let low : p < length list = omega (arith, kept.fits.many, c.requires.place) in
    let here : LedgerFits L.ledgers L.readers L.origin.count p mine (going_at old p) before = kept.fits.each p before (row_at list p before low c.index_mut.ensures.value) in
    let rested : LedgerFits L.ledgers L.readers L.origin.count p mine None before = subst (λ (o : Option (List Entry)). LedgerFits L.ledgers L.readers L.origin.count p mine o before) (rest_none (way_of old.ways.items p) c.requires.rests) here in
    let m = c.make_room.ensures in
    let mid = c.make_room.new.self in
    let now = c.index_mut-in-Err-SiteFault.result.now in
    let is : now ≡ mid = c.index_mut-in-Err-SiteFault.ensures.value ∙ get_or-set_same list p mid now low in
    let new = c.body.new.self in
    let e = c.body.ensures in
    let keeps = e.keeps in
    let last = c.begin_frame-in-Err-SiteFault.new.self in
    let b = c.begin_frame-in-Err-SiteFault.ensures in
    let way : going_at new p ≡ Some (entries_of c.args.frame) = (c.body.ensures.broken (c.in-Err-SiteFault.is ∙ ap (λ (r : Unwritten). Err r) c.in-Err-SiteFault.field-0-is)).1 in
    let at : stage_at new p ≡ stages.BrokenBody = (c.body.ensures.broken (c.in-Err-SiteFault.is ∙ ap (λ (r : Unwritten). Err r) c.in-Err-SiteFault.field-0-is)).0 in
    record {
      sound = e.sound;
      fits = fits_moves L.origin.count L.ledgers L.readers L.may_make old.latest new.latest (trail_in old) (trail_in new) (told_in old) (told_in new) (going_at old) (going_at new) (stage_at old) (stage_at new) list _ keeps.latest keeps.said
          p last c.requires.place e.trail (set-set list p mid last) (λ q apart. ap going_in (keeps.others q apart)) (λ q apart. ap stage_of (keeps.others q apart)) kept.fits
          (subst (λ (o : Option (List Entry)). LedgerFits L.ledgers L.readers L.origin.count p mine o last) (sym way)
          (written_fits L.ledgers L.readers L.origin.count p mine before mid rested m.places m.readers m.settled m.whole now is last (entries_of c.in-Some-frame.frame.now) (entries_of c.args.frame) (all_sent c.args.sending.items) (floors_of list p) (sym (frame_is (going_at c.body.new.self c.args.part) (entries_of c.args.frame) (entries_of c.in-Some-frame.frame.now) (c.body.ensures.broken (c.in-Err-SiteFault.is ∙ ap (λ (r : Unwritten). Err r) c.in-Err-SiteFault.field-0-is)).1 c.in-Some-frame.ensures)) b.places b.readers b.settled b.whole c.requires.fits c.requires.makes
          (floors_are list p before low c.index_mut.ensures.value) c.requires.unlost))
          (subst (IsMade L.may_make old.latest mine (told_in old) p) (sym way) c.requires.may)
          (λ tried. absurd (untried (stage_at new p) stages.BrokenBody at refl tried));
    }

pub returns-in-Some-frame-clause-keeps : goal.returns-in-Some-frame-clause-keeps
returns-in-Some-frame-clause-keeps g c =
    let L = g.L.Local in
    let p = c.args.part in
    let old = c.args.self.now.logs in
    let list = c.args.self.now.ledgers.items in
    let kept = c.requires.kept in
    let mine = of_part p (trail_in old) in
    let before = c.index_mut.result.now in
    let low : p < length list = omega (arith, kept.fits.many, c.requires.place) in
    let here : LedgerFits L.ledgers L.readers L.origin.count p mine (going_at old p) before = kept.fits.each p before (row_at list p before low c.index_mut.ensures.value) in
    let rested : LedgerFits L.ledgers L.readers L.origin.count p mine None before = subst (λ (o : Option (List Entry)). LedgerFits L.ledgers L.readers L.origin.count p mine o before) (rest_none (way_of old.ways.items p) c.requires.rests) here in
    let m = c.make_room.ensures in
    let mid = c.make_room.new.self in
    let now = c.index_mut-in-Err-SiteFault.result.now in
    let is : now ≡ mid = c.index_mut-in-Err-SiteFault.ensures.value ∙ get_or-set_same list p mid now low in
    let last = c.begin_frame-in-Err-SiteFault.new.self in
    record {
      logs = c.body.ensures.keeps;
      floors = floors_stay list _ p before last (set-set list p mid last) c.index_mut.ensures.value (c.begin_frame-in-Err-SiteFault.ensures.places.floors ∙ ap (λ (l : declared.Ledger). l.floors) is ∙ m.places.floors);
    }

pub returns-in-Err-Memory-clause-kept : goal.returns-in-Err-Memory-clause-kept
returns-in-Err-Memory-clause-kept g c =
    let L = g.L.Local in
    let p = c.args.part in
    let old = c.args.self.now.logs in
    let list = c.args.self.now.ledgers.items in
    let kept = c.requires.kept in
    let mine = of_part p (trail_in old) in
    let before = c.index_mut.result.now in
    let low : p < length list = omega (arith, kept.fits.many, c.requires.place) in
    let here : LedgerFits L.ledgers L.readers L.origin.count p mine (going_at old p) before = kept.fits.each p before (row_at list p before low c.index_mut.ensures.value) in
    let rested : LedgerFits L.ledgers L.readers L.origin.count p mine None before = subst (λ (o : Option (List Entry)). LedgerFits L.ledgers L.readers L.origin.count p mine o before) (rest_none (way_of old.ways.items p) c.requires.rests) here in
    let m = c.make_room.ensures in
    let mid = c.make_room.new.self in
    let new = c.body.new.self in
    let e = c.body.ensures in
    let at : stage_at new p ≡ stages.Resting = (e.memory _ (c.in-Err-Memory.is ∙ ap (λ (r : Unwritten). Err r) c.in-Err-Memory.field-0-is)).2 in
    let sound = e.sound in
    let same_latest = e.keeps.latest in
    let same_said = e.keeps.said in
    let same_trail = e.trail in
    let others_too : (q : ℕ) → q ≢ p → going_at new q ≡ going_at old q = λ q apart. ap going_in (e.keeps.others q apart) in
    let stages_too : (q : ℕ) → q ≢ p → stage_at new q ≡ stage_at old q = λ q apart. ap stage_of (e.keeps.others q apart) in
    let none : going_at new p ≡ None = rest_none (way_of new.ways.items p) at in
    record {
      sound = sound;
      fits = fits_moves L.origin.count L.ledgers L.readers L.may_make old.latest new.latest (trail_in old) (trail_in new) (told_in old) (told_in new) (going_at old) (going_at new) (stage_at old) (stage_at new) list _ same_latest same_said
          p mid c.requires.place same_trail refl others_too stages_too kept.fits
          (subst (λ (o : Option (List Entry)). LedgerFits L.ledgers L.readers L.origin.count p mine o mid) (sym none) (room_fits L.ledgers L.readers L.origin.count p mine before mid rested m.places m.readers m.settled m.whole))
          (subst (IsMade L.may_make old.latest mine (told_in old) p) (sym none) tt)
          (λ tried. absurd (untried (stage_at new p) stages.Resting at refl tried));
    }

pub returns-in-Err-Memory-clause-keeps : goal.returns-in-Err-Memory-clause-keeps
returns-in-Err-Memory-clause-keeps g c = record { logs = c.body.ensures.keeps; floors = floors_stay c.args.self.now.ledgers.items _ c.args.part c.index_mut.result.now c.make_room.new.self refl c.index_mut.ensures.value c.make_room.ensures.places.floors }

pub returns-in-Err-Full-clause-kept : goal.returns-in-Err-Full-clause-kept
returns-in-Err-Full-clause-kept g c =
    let L = g.L.Local in
    let p = c.args.part in
    let old = c.args.self.now.logs in
    let list = c.args.self.now.ledgers.items in
    let kept = c.requires.kept in
    let mine = of_part p (trail_in old) in
    let before = c.index_mut.result.now in
    let low : p < length list = omega (arith, kept.fits.many, c.requires.place) in
    let here : LedgerFits L.ledgers L.readers L.origin.count p mine (going_at old p) before = kept.fits.each p before (row_at list p before low c.index_mut.ensures.value) in
    let rested : LedgerFits L.ledgers L.readers L.origin.count p mine None before = subst (λ (o : Option (List Entry)). LedgerFits L.ledgers L.readers L.origin.count p mine o before) (rest_none (way_of old.ways.items p) c.requires.rests) here in
    let m = c.make_room.ensures in
    let mid = c.make_room.new.self in
    let new = c.body.new.self in
    let e = c.body.ensures in
    let at : stage_at new p ≡ stages.Resting = ap stage_of (e.room _ _ _ (c.in-Err-Full.is ∙ ap (λ (r : Unwritten). Err r) c.in-Err-Full.field-0-is)).5 ∙ c.requires.rests in
    let sound = e.sound in
    let same_latest = e.keeps.latest in
    let same_said = e.keeps.said in
    let same_trail = e.trail in
    let others_too : (q : ℕ) → q ≢ p → going_at new q ≡ going_at old q = λ q apart. ap going_in (e.keeps.others q apart) in
    let stages_too : (q : ℕ) → q ≢ p → stage_at new q ≡ stage_at old q = λ q apart. ap stage_of (e.keeps.others q apart) in
    let none : going_at new p ≡ None = rest_none (way_of new.ways.items p) at in
    record {
      sound = sound;
      fits = fits_moves L.origin.count L.ledgers L.readers L.may_make old.latest new.latest (trail_in old) (trail_in new) (told_in old) (told_in new) (going_at old) (going_at new) (stage_at old) (stage_at new) list _ same_latest same_said
          p mid c.requires.place same_trail refl others_too stages_too kept.fits
          (subst (λ (o : Option (List Entry)). LedgerFits L.ledgers L.readers L.origin.count p mine o mid) (sym none) (room_fits L.ledgers L.readers L.origin.count p mine before mid rested m.places m.readers m.settled m.whole))
          (subst (IsMade L.may_make old.latest mine (told_in old) p) (sym none) tt)
          (λ tried. absurd (untried (stage_at new p) stages.Resting at refl tried));
    }

pub returns-in-Err-Full-clause-keeps : goal.returns-in-Err-Full-clause-keeps
returns-in-Err-Full-clause-keeps g c = record { logs = c.body.ensures.keeps; floors = floors_stay c.args.self.now.ledgers.items _ c.args.part c.index_mut.result.now c.make_room.new.self refl c.index_mut.ensures.value c.make_room.ensures.places.floors }
