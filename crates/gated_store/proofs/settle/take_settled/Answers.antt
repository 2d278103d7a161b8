use Rattle.std.proofs.Common.{ℕ, ◌∙◌, sym, ap, subst, arith, length, List}
use Rattle.std.specs.List.{All}
use Rattle.log_items.specs.declared.items.Item.{Item}
use Rattle.log_items.specs.Plain.{items_of}
use Rattle.commit_gate.specs.Keeping.{IsOfOne}
use Rattle.commit_gate.specs.Ledgers.{Ledger, after_items}
use Rattle.log_items.specs.Readings.{readers_after}
use Rattle.dura_value.specs.Items.{Identity}
use Rattle.gated_store.specs.Causal.{identity_of}
use Rattle.hub_store.specs.Plain.{settled_of}
use Rattle.commit_gate.specs.Views.{ledger_of, readers_in}
use Rattle.gated_store.proofs.Moving.{place_on}
use Rattle.gated_store.proofs.Settles.{after_one, read_one, one_here}
use Rattle.gated_store.proofs.settle.take_settled.Goals as goal

pub take_items-requires-clause-fits : goal.take_items-requires-clause-fits
take_items-requires-clause-fits c =
    subst (λ (l : List Item). All (IsOfOne (length c.loop-one.ledger.boxes.items)) (items_of l)) (sym c.as_slice.ensures)
    (subst (λ (n : ℕ). All (IsOfOne n) (items_of c.one-item.result.items)) (sym c.loop-one.invariant.places.boxes)
    (one_here (IsOfOne (length c.args.ledger.now.boxes.items)) c.args.settled.now c.loop-one.one-index c.one-item.result (omega arith) c.one-item.is c.requires.fits))

pub loop-one-preserved : goal.loop-one-preserved
loop-one-preserved c =
    let inv = c.loop-one.invariant in
    let one = c.one-item.result in
    record {
      settled = c.take_items.ensures.settled ∙ ap (λ (l : List Item). after_items (items_of l) (ledger_of c.loop-one.ledger)) c.as_slice.ensures
          ∙ ap (λ (r : Ledger). after_items (items_of c.one-item.result.items) r) inv.settled
          ∙ after_one c.args.settled.now c.loop-one.one-index c.one-item.result (ledger_of c.args.ledger.now) (omega arith) c.one-item.is;
      whole = c.take_items.ensures.whole;
      readers = c.take_items.ensures.readers ∙ ap (λ (l : List Item). readers_after (identity_of (settled_of one)) (readers_in c.loop-one.ledger) (items_of l)) c.as_slice.ensures
          ∙ ap (λ (r : ℕ → Identity). readers_after (identity_of (settled_of one)) r (items_of one.items)) inv.readers
          ∙ read_one c.args.settled.now c.loop-one.one-index one (readers_in c.args.ledger.now) (omega arith) c.one-item.is;
      places = place_on c.args.ledger.now c.loop-one.ledger c.take_items.new.self inv.places c.take_items.ensures.places;
    }
