use Rattle.std.proofs.Common.{◌≡◌, take}
use Rattle.commit_gate.specs.Keeping.{KeepsPlaces}
use Rattle.commit_gate.specs.Ledgers.{after_items}
use Rattle.commit_gate.specs.Views.{readers_in, ledger_of, whole_of}
use Rattle.hub_store.specs.Plain.{trail_of}
use Rattle.gated_store.specs.Settled.{items_settled, readers_settled}
use Rattle.gated_store.proofs.settle.take_settled.Given as goal

abbrev pub invariant-loop-one : goal.invariant-loop-one
invariant-loop-one l = record {
  settled : ledger_of l.ledger ≡ after_items (items_settled (trail_of (take l.one-index l.settled))) (ledger_of l.initial.ledger);
  whole : whole_of l.ledger ≡ ledger_of l.ledger;
  readers : readers_in l.ledger ≡ readers_settled (readers_in l.initial.ledger) (trail_of (take l.one-index l.settled));
  places : KeepsPlaces l.initial.ledger l.ledger;
}
