use Rattle.std.proofs.Common.{ℕ, ◌∷◌, [], ◌∙◌, sym, ap, subst, arith, length}
use Rattle.log_items.specs.Plain.{item_of}
use Rattle.commit_gate.specs.Keeping.{IsOfOne}
use Rattle.commit_gate.specs.Ledgers.{Ledger, after_items}
use Rattle.commit_gate.proofs.Going.{after_item, readers_item, all_here}
use Rattle.commit_gate.proofs.ledger.Ledger.take_items.Goals as goal
use Rattle.commit_gate.specs.Views.{ledger_of, readers_in}
use Rattle.dura_value.specs.Items.{Identity}
use Rattle.dura_value.specs.Views.{identity_of}
use Rattle.log_items.specs.Readings.{readers_after}

pub take_item-requires-clause-fits : goal.take_item-requires-clause-fits
take_item-requires-clause-fits c =
    subst (λ (n : ℕ). IsOfOne n (item_of c.item-item.result)) (sym c.loop-item.invariant.places.boxes)
    (all_here item_of (IsOfOne (length c.args.self.now.boxes.items)) c.args.items.now c.loop-item.item-index c.item-item.result (omega arith) c.item-item.is c.requires.fits)

pub loop-item-preserved : goal.loop-item-preserved
loop-item-preserved c =
    let inv = c.loop-item.invariant in
    let kept = c.take_item.ensures.places in
    record {
      settled = c.take_item.ensures.settled ∙ ap (λ (r : Ledger). after_items (item_of c.item-item.result ∷ []) r) inv.settled
          ∙ after_item c.args.items.now c.loop-item.item-index c.item-item.result (ledger_of c.args.self.now) (omega arith) c.item-item.is;
      whole = c.take_item.ensures.whole;
      readers = c.take_item.ensures.readers ∙ ap (λ (r : ℕ → Identity). readers_after (identity_of c.args.reader) r (item_of c.item-item.result ∷ [])) inv.readers
          ∙ readers_item c.args.items.now c.loop-item.item-index c.item-item.result (identity_of c.args.reader) (readers_in c.args.self.now) (omega arith) c.item-item.is;
      places = record { boxes = kept.boxes ∙ inv.places.boxes; nexts = kept.nexts ∙ inv.places.nexts; readers = kept.readers ∙ inv.places.readers; floors = kept.floors ∙ inv.places.floors };
    }
