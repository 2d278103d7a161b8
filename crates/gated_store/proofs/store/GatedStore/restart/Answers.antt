use Rattle.std.proofs.Common.{◌<◌, ◌≤◌, ◌++◌, ◌∷◌, [], List, length, ◌∙◌, sym, ap, refl, arith}
use Rattle.std.proofs.Math.ListN.{set}
use Rattle.std.proofs.lemmas.List.{length-set, get_or-set_same}
use Rattle.dura_value.specs.Items.{Floor}
use Rattle.commit_gate.specs.Ledgers.{log_length}
use Rattle.commit_gate.specs.Views.{whole_of, floors_in}
use Rattle.hub_store.specs.Changes.{stage_at, going_at, trail_in, told_in}
use Rattle.hub_store.specs.Trail.{of_part}
use Rattle.commit_gate.proofs.Boxes.{on_ok}
use Rattle.gated_store.specs.Kept.{LedgerFits}
use Rattle.gated_store.proofs.Moving.{fits_moves, row_at, end_is, restart_fits, restart_either, floors_are, floors_else, on_refusal}
use Rattle.gated_store.proofs.store.GatedStore.restart.Goals as goal

pub returns-clause-kept : goal.returns-clause-kept
returns-clause-kept g c =
    let L = g.L.Local in
    let p = c.args.part in
    let logs = c.args.self.now.logs in
    let list = c.args.self.now.ledgers.items in
    let kept = c.requires.kept in
    let ledger = c.index_mut.result.now in
    let new = c.restart.new.self in
    let e = c.restart.ensures in
    let mine = of_part p (trail_in logs) in
    let low : p < length list = omega (arith, kept.fits.many, c.requires.place) in
    let here : LedgerFits L.ledgers L.readers L.origin.count p mine (going_at logs p) ledger = kept.fits.each p ledger (row_at list p ledger low c.index_mut.ensures.value) in
    let end = end_is L.ledgers L.readers L.may_make L.goes L.origin.count p logs.latest mine (told_in logs) (going_at logs p) ledger here (kept.fits.made p c.requires.place) in
    let high : log_length (whole_of ledger) ≤ c.args.from = omega (arith, end, c.requires.above) in
    record {
      sound = kept.sound;
      fits = fits_moves L.origin.count L.ledgers L.readers L.may_make logs.latest logs.latest (trail_in logs) (trail_in logs) (told_in logs) (told_in logs) (going_at logs) (going_at logs) (stage_at logs) (stage_at logs) list _ refl refl
          p new c.requires.place refl refl (λ q apart. refl) (λ q apart. refl) kept.fits
          (restart_fits L.origin.count L.ledgers L.readers p mine (going_at logs p) ledger new (floors_in new) here e.boxes e.nexts e.readers e.settled e.whole refl
          (restart_either c.restart.result (whole_of ledger) (floors_in ledger) (floors_in new) (record { partition = c.args.part; incarnation = c.args.incarnation; from = c.args.from }) e.floors e.same high here.unlost))
          (kept.fits.made p c.requires.place) (kept.fits.met p c.requires.place);
    }

pub returns-clause-floors : goal.returns-clause-floors
returns-clause-floors g c =
    let p = c.args.part in
    let list = c.args.self.now.ledgers.items in
    let kept = c.requires.kept in
    let ledger = c.index_mut.result.now in
    let new = c.restart.new.self in
    let low : p < length list = omega (arith, kept.fits.many, c.requires.place) in
    let low_too : p < length (set list p new) = omega (arith, low, length-set list p new) in
    on_ok c.restart.result c.restart.ensures.floors
    (λ grown. floors_are (set list p new) p new low_too (sym (get_or-set_same list p new new low)) ∙ grown ∙ ap (λ (l : List Floor). l ++ record { partition = c.args.part; incarnation = c.args.incarnation; from = c.args.from } ∷ []) (sym (floors_are list p ledger low c.index_mut.ensures.value)))

pub returns-clause-others : goal.returns-clause-others
returns-clause-others g c q apart = floors_else c.args.self.now.ledgers.items c.args.part q c.restart.new.self apart

pub returns-clause-no_floor : goal.returns-clause-no_floor
returns-clause-no_floor g c =
    let p = c.args.part in
    let list = c.args.self.now.ledgers.items in
    let ledger = c.index_mut.result.now in
    let new = c.restart.new.self in
    let low : p < length list = omega (arith, c.requires.kept.fits.many, c.requires.place) in
    let low_too : p < length (set list p new) = omega (arith, low, length-set list p new) in
    on_refusal c.restart.result c.restart.ensures.same
    (λ same. floors_are (set list p new) p new low_too (sym (get_or-set_same list p new new low)) ∙ same ∙ sym (floors_are list p ledger low c.index_mut.ensures.value))
