-- What a cell sends to other partitions.
use Rattle.std.specs.Prelude.{◌≡◌, ℕ, ◌++◌, List, take, Some, Ok}
use Rattle.cell_packets.specs.Packets.{all_sent_from, ends_of}
use Rattle.commit_gate.specs.Views.{all_sent}
use Rattle.commit_gate.specs.declared.ledger.Sending.{Sending}
use Rattle.dura_model.specs.Entries.{placed}
use Rattle.dura_model.specs.Partition.{Partition}
use Rattle.flow_syntax.specs.Syntax.{Flows}
use Rattle.log_items.specs.declared.items.Packet.{Packet as OwnPacket}
use Rattle.cell_steps.specs.Sent.{SendsLater, SendsAgain}
use Rattle.spec_cell.specs.Views.{CellView, IsBase, IsAhead}
use Rattle.cell_steps.specs.declared.mode.Mode.{Mode}

-- The settled state has moved on, and what the entries sent by which it did goes out, unless it did before.
pub record SendsSettled (flows : Flows) (count : ℕ) (begin : Partition) (mode : Mode) (old new : CellView) (packets : List OwnPacket) : Type 0 where
  pub before : Partition
  pub after : Partition
  pub was : IsBase flows count begin old before
  pub is : IsBase flows count begin new after
  pub sends : SendsLater mode count before after packets

pub record Resends (flows : Flows) (count : ℕ) (begin : Partition) (mode : Mode) (c : CellView) (packets : List OwnPacket) : Type 0 where
  pub base : Partition
  pub ahead : Partition
  pub is_base : IsBase flows count begin c base
  pub is_ahead : IsAhead flows count begin c ahead
  pub sends : SendsAgain mode count base ahead packets

-- What the first so many entries send: what the state behind them has beyond the settled one.
pub record FrameSends (flows : Flows) (count : ℕ) (begin : Partition) (c : CellView) (n : ℕ) (sending : List Sending) : Type 0 where
  pub base : Partition
  pub behind : Partition
  pub is_base : IsBase flows count begin c base
  pub made : placed flows count begin (c.slot.mine ++ take n c.entries) ≡ Ok behind
  pub sends : all_sent sending ≡ all_sent_from count (ends_of (Some base.outboxes)) behind.outboxes
