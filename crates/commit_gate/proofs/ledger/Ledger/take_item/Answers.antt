use Rattle.std.proofs.Common.{ℕ, ◌+◌, ◌^◌, ◌<◌, ◌∷◌, [], List, length, sym, ◌∙◌, ap, subst, arith}
use Rattle.std.proofs.Math.ListN.{set}
use Rattle.log_items.specs.declared.items.Item.{Item}
use Rattle.log_items.specs.Plain.{item_of}
use Rattle.commit_gate.specs.Keeping.{IsOfOne}
use Rattle.commit_gate.specs.Ledgers as rows
use Rattle.commit_gate.specs.Ledgers.{after_items}
use Rattle.commit_gate.specs.Views.{whole_box, boxes_by, nexts_by, readers_in, ledger_of}
use Rattle.commit_gate.specs.Past.{spread}
use Rattle.commit_gate.proofs.Boxes.{made, box_begun, rests_set, rests_here, reader_set}
use Rattle.dura_value.specs.Views.{identity_of}
use Rattle.commit_gate.proofs.ledger.Ledger.take_item.Goals as goal
use Rattle.log_items.specs.Readings.{readers_after}

pub begin_at-requires : goal.begin_at-requires
begin_at-requires c =
    let s = c.args.self.now in
    let low : c.in-Trim.target < length s.boxes.items = subst (λ (i : Item). IsOfOne (length s.boxes.items) (item_of i)) c.in-Trim.is c.requires.fits in
    record { rests = rests_here s.boxes.items c.in-Trim.target c.index_mut-in-Trim.result.now low (ap (λ (r : rows.Ledger). r.boxes) c.requires.rests) c.index_mut-in-Trim.ensures.value }

pub returns-in-Trim-clause-settled : goal.returns-in-Trim-clause-settled
returns-in-Trim-clause-settled c =
    let s = c.args.self.now in
    let low : c.in-Trim.target < length s.boxes.items = subst (λ (i : Item). IsOfOne (length s.boxes.items) (item_of i)) c.in-Trim.is c.requires.fits in
    ap (made (spread s.past.items) (nexts_by s.nexts.items))
    (box_begun s.boxes.items c.in-Trim.target c.in-Trim.number c.begin_at.new.self c.index_mut-in-Trim.result.now low c.index_mut-in-Trim.ensures.value c.begin_at.ensures.settled)
    ∙ ap (λ (i : Item). after_items (item_of i ∷ []) (ledger_of s)) (sym c.in-Trim.is)

pub returns-in-Trim-clause-whole : goal.returns-in-Trim-clause-whole
returns-in-Trim-clause-whole c =
    let s = c.args.self.now in
    let low : c.in-Trim.target < length s.boxes.items = subst (λ (i : Item). IsOfOne (length s.boxes.items) (item_of i)) c.in-Trim.is c.requires.fits in
    ap (λ (l : List ℕ). made l (nexts_by s.nexts.items) (boxes_by whole_box (set s.boxes.items c.in-Trim.target c.begin_at.new.self))) (ap (λ (r : rows.Ledger). r.incarnations) c.requires.rests)
    ∙ ap (made (spread s.past.items) (nexts_by s.nexts.items))
    (rests_set s.boxes.items c.in-Trim.target c.begin_at.new.self low (ap (λ (r : rows.Ledger). r.boxes) c.requires.rests) c.begin_at.ensures.whole)

pub returns-in-Got-clause-readers : goal.returns-in-Got-clause-readers
returns-in-Got-clause-readers c =
    let s = c.args.self.now in
    let reader = identity_of c.args.reader in
    let low : (c.in-Got.source < length s.boxes.items) × (c.in-Got.number + 1 < 2 ^ 64) = subst (λ (i : Item). IsOfOne (length s.boxes.items) (item_of i)) c.in-Got.is c.requires.fits in
    reader_set s.readers.items c.in-Got.source c.args.reader (omega (arith, low.0, c.requires.readers))
    ∙ ap (λ (i : Item). readers_after reader (readers_in s) (item_of i ∷ [])) (sym c.in-Got.is)
