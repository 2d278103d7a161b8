-- A copy of a packet comes as the packet does.
use Rattle.std.proofs.Common.{◌≡◌, ℕ, List, subst}
use Rattle.dura_value.specs.Messages.{Message}
use Rattle.dura_value.specs.Views.{message_of}
use Rattle.log_items.specs.declared.items.Packet.{Packet}
use Rattle.many_rules.specs.Rules.{Rules}
use Rattle.spec_cell.specs.Comes.{Arrives}
use Rattle.spec_cell.specs.Views.{CellView}
use Rattle.spec_cell.specs.declared.coming.Arrived.{Arrived}
use Rattle.world_steps.specs.Cells.{CellBecomes}
use Rattle.world_steps.specs.Comes.{ArrivesAt}

-- both say the same
abbrev pub AreSame : Packet → Packet → Type 0
AreSame copy packet = (copy.src ≡ packet.src) × (copy.dst ≡ packet.dst) × (copy.inc ≡ packet.inc) × (copy.pos ≡ packet.pos) × (copy.seq ≡ packet.seq) × (message_of copy.message ≡ message_of packet.message)

module _ (rules : Rules) (copy packet : Packet) (same : AreSame copy packet) where
  brings : (arrived : Arrived) (c after : CellView) → ArrivesAt rules copy arrived c after → ArrivesAt rules packet arrived c after
  brings arrived c after is =
      let ahead = is.0 in
      let src = subst (λ (n : ℕ). Arrives ahead (record { partition = n; incarnation = copy.inc; position = copy.pos }) copy.seq (message_of copy.message) c arrived after) same.0 is.2 in
      let inc = subst (λ (n : ℕ). Arrives ahead (record { partition = packet.src; incarnation = n; position = copy.pos }) copy.seq (message_of copy.message) c arrived after) same.2 src in
      let pos = subst (λ (n : ℕ). Arrives ahead (record { partition = packet.src; incarnation = packet.inc; position = n }) copy.seq (message_of copy.message) c arrived after) same.3 inc in
      let seq = subst (λ (n : ℕ). Arrives ahead (record { partition = packet.src; incarnation = packet.inc; position = packet.pos }) n (message_of copy.message) c arrived after) same.4 pos in
      (ahead, is.1, subst (λ (m : Message). Arrives ahead (record { partition = packet.src; incarnation = packet.inc; position = packet.pos }) packet.seq m c arrived after) same.5 seq)

  -- a call said this of what the copy does
  pub brought : (p : ℕ) (cells later : List CellView) (arrived k : Arrived) → arrived ≡ k → CellBecomes p cells later (ArrivesAt rules copy arrived) → CellBecomes p cells later (ArrivesAt rules packet k)
  brought p cells later arrived k is says = record {
    cell = says.cell;
    after = says.after;
    there = says.there;
    becomes = says.becomes;
    does = subst (λ (x : Arrived). ArrivesAt rules packet x says.cell says.after) is (brings arrived says.cell says.after says.does);
  }
