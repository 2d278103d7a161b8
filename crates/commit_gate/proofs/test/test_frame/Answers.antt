use Rattle.std.proofs.Common.{arith, subst, List, ◌∙◌}
use Rattle.std.specs.List.{All}
use Rattle.std.proofs.lemmas.List.{take_all}
use Rattle.log_items.specs.declared.frames.Entry.{Entry}
use Rattle.log_items.specs.declared.items.Item.{Item}
use Rattle.log_items.specs.Plain.{entries_of, items_of}
use Rattle.commit_gate.specs.Refused.{Passes, RefusesFirst}
use Rattle.commit_gate.specs.Views.{ledgers_of, floors_of}
use Rattle.commit_gate.proofs.Tested.{entry_stops, entry_passes}
use Rattle.commit_gate.proofs.test.test_frame.Goals as goal
use Rattle.log_items.specs.Entries.{items_in}

pub returns-in-Err : goal.returns-in-Err
returns-in-Err c =
    subst (λ (l : List Entry). RefusesFirst (ledgers_of c.args.ledgers.now) (floors_of c.args.ledgers.now) c.args.partition (items_in (entries_of l)) c.in-Err.unmet) c.entries-entry-items.ensures
    (entry_stops (ledgers_of c.args.ledgers.now) (floors_of c.args.ledgers.now) c.args.partition c.entries-entry-items.result.now c.loop-entry.entry-index c.entry-item.result c.in-Err.unmet (omega arith) c.entry-item.is c.loop-entry.invariant
    (subst (λ (l : List Item). RefusesFirst (ledgers_of c.args.ledgers.now) (floors_of c.args.ledgers.now) c.args.partition (items_of l) c.in-Err.unmet) c.as_slice.ensures c.in-Err.ensures))

pub loop-entry-preserved : goal.loop-entry-preserved
loop-entry-preserved c =
    entry_passes (ledgers_of c.args.ledgers.now) (floors_of c.args.ledgers.now) c.args.partition c.entries-entry-items.result.now c.loop-entry.entry-index c.entry-item.result (omega arith) c.entry-item.is c.loop-entry.invariant
    (subst (λ (l : List Item). All (Passes (ledgers_of c.args.ledgers.now) (floors_of c.args.ledgers.now) c.args.partition) (items_of l)) c.as_slice.ensures c.in_default.ensures)

pub returns : goal.returns
returns c =
    subst (λ (l : List Entry). All (Passes (ledgers_of c.args.ledgers.now) (floors_of c.args.ledgers.now) c.args.partition) (items_in (entries_of l))) (take_all _ c.entries-entry-items.result.now (omega arith) ∙ c.entries-entry-items.ensures) c.loop-entry.invariant
