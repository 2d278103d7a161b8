-- The plain data that ledgers and streams stand for.
use Rattle.std.specs.Prelude.{ℕ, List, [], ◌++◌, map, take, slice_index_or}
use Rattle.dura_value.specs.Items.{Floor, Identity}
use Rattle.dura_value.specs.declared.identity.Identity as identities
use Rattle.dura_value.specs.Views.{identity_of, posted_of, floor_of}
use Rattle.log_items.specs.Streams.{Outbox, Sent}
use Rattle.commit_gate.specs.declared.ledger.Sending.{Sending}
use Rattle.commit_gate.specs.declared.ledger.Stream.{Stream}
use Rattle.commit_gate.specs.declared.ledger.Ledger.{Ledger}
use Rattle.commit_gate.specs.Ledgers as plain
use Rattle.commit_gate.specs.Past.{spread}

abbrev pub sent_of : Sending → Sent
sent_of sending = record { to = sending.to; posted = posted_of sending.posted }

abbrev pub all_sent : List Sending → List Sent
all_sent = map sent_of

-- what is settled of a stream, and with what the frame under way sends
abbrev pub box_of : Stream → Outbox
box_of stream = record { first = stream.first; messages = map posted_of (take stream.settled stream.messages.items) }

abbrev pub whole_box : Stream → Outbox
whole_box stream = record { first = stream.first; messages = map posted_of stream.messages.items }

abbrev pub no_box : Outbox
no_box = record { first = 0; messages = [] }

-- at each partition what its stream shows
abbrev pub boxes_by : (Stream → Outbox) → List Stream → ℕ → Outbox
boxes_by view streams target = slice_index_or (map view streams) target no_box

abbrev pub nexts_by : List ℕ → ℕ → ℕ
nexts_by nexts source = slice_index_or nexts source 0

-- a partition as it is settled, and with its frame under way
abbrev pub ledger_of : Ledger → plain.Ledger
ledger_of ledger = record {
  incarnations = spread ledger.past.items;
  nexts = nexts_by ledger.nexts.items;
  boxes = boxes_by box_of ledger.boxes.items;
}

abbrev pub whole_of : Ledger → plain.Ledger
whole_of ledger = record {
  incarnations = spread ledger.past.items ++ ledger.incarnations.items;
  nexts = nexts_by ledger.nexts.items;
  boxes = boxes_by whole_box ledger.boxes.items;
}

abbrev pub no_ledger : plain.Ledger
no_ledger = record { incarnations = []; nexts = λ source. 0; boxes = λ target. no_box }

abbrev pub ledgers_of : List Ledger → ℕ → plain.Ledger
ledgers_of ledgers partition = slice_index_or (map ledger_of ledgers) partition no_ledger

-- who took in the last message of each stream
abbrev pub nobody : Identity
nobody = record { partition = 0; incarnation = 0; position = 0 }

abbrev pub readers_by : List identities.Identity → ℕ → Identity
readers_by readers source = slice_index_or (map identity_of readers) source nobody

abbrev pub readers_in : Ledger → ℕ → Identity
readers_in ledger = readers_by ledger.readers.items

abbrev pub floors_in : Ledger → List Floor
floors_in ledger = map floor_of ledger.floors.items

abbrev pub floors_of : List Ledger → ℕ → List Floor
floors_of ledgers partition = slice_index_or (map floors_in ledgers) partition []
