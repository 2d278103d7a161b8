use Rattle.std.proofs.Common.{◌≡◌, take}
use Rattle.log_items.specs.Plain.{items_of}
use Rattle.commit_gate.specs.Keeping.{KeepsPlaces}
use Rattle.dura_value.specs.Views.{identity_of}
use Rattle.commit_gate.specs.Ledgers.{after_items}
use Rattle.commit_gate.specs.Views.{readers_in, ledger_of, whole_of}
use Rattle.commit_gate.proofs.ledger.Ledger.take_items.Given as goal
use Rattle.log_items.specs.Readings.{readers_after}

abbrev pub invariant-loop-item : goal.invariant-loop-item
invariant-loop-item l = record {
  settled : ledger_of l.self ≡ after_items (items_of (take l.item-index l.items)) (ledger_of l.initial.self);
  whole : whole_of l.self ≡ ledger_of l.self;
  readers : readers_in l.self ≡ readers_after (identity_of l.reader) (readers_in l.initial.self) (items_of (take l.item-index l.items));
  places : KeepsPlaces l.initial.self l.self;
}
