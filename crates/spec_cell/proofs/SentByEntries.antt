-- What a cell's entries send.
use Rattle.std.proofs.Common.{◌≡◌, ◌++◌, ℕ, List, Some, Result, Ok, Err, IfOk, sym, ◌∙◌, ap, subst}
use Rattle.std.specs.Prelude.{take}
use Rattle.std.proofs.lemmas.List.{take-map}
use Rattle.std.specs.declared.alloc.Global.{Global}
use Rattle.std.specs.declared.alloc.AllocError.{AllocError}
use Rattle.std.specs.declared.vec.Vec.{Vec}
use Rattle.cell_packets.specs.Packets.{all_sent_from, ends_of}
use Rattle.commit_gate.specs.Views.{all_sent}
use Rattle.commit_gate.specs.declared.ledger.Sending.{Sending}
use Rattle.dura_model.proofs.Appending.{placed_both}
use Rattle.dura_model.specs.Entries.{placed}
use Rattle.dura_model.specs.Partition.{Partition}
use Rattle.dura_value.specs.Items.{Entry}
use Rattle.dura_value.specs.Reading.{◌>>=◌}
use Rattle.flow_syntax.specs.Syntax.{Flows}
use Rattle.log_items.specs.Plain.{entry_of}
use Rattle.log_items.specs.declared.items.Packet.{Packet}
use Rattle.part_steps.specs.States.{IsSound, state_of, count_of}
use Rattle.part_steps.specs.declared.state.PartState.{PartState}
use Rattle.cell_steps.specs.Ahead.{ahead_of}
use Rattle.spec_cell.specs.Seats.{Slot}
use Rattle.spec_cell.specs.Sends.{SendsSettled, Resends, FrameSends}
use Rattle.cell_steps.specs.Sent.{SendsLater, SendsAgain}
use Rattle.cell_steps.specs.Steps.{last_of, entries_in}
use Rattle.spec_cell.specs.Views.{CellView, Stands}
use Rattle.cell_steps.specs.declared.mode.Mode.{Mode}
use Rattle.cell_steps.specs.declared.live.Live.{Live}
use Rattle.cell_steps.specs.declared.step.Step.{Step}
use Rattle.spec_cell.proofs.CellFacts.{view, base_of_self, ahead_of_self}
use Rattle.cell_steps.proofs.Chains.{steps_front, last_many, last_sound, steps_placed}
use Rattle.cell_steps.specs.declared.round.Round.{Round}

module _ (flows : Flows) (count : ℕ) (begin : ℕ → Partition) (number : ℕ) (slot : Slot) (now out owner : ℕ) (round : Round) (live : Live) (stands : Stands flows count (begin number) slot.mine now out live)
    (self : CellView) (view_is : view number slot (Some live) now out owner round ≡ self) where
  -- the state behind the first so many steps
  abbrev pub front : ℕ → PartState
  front n = last_of live.base (take n live.steps.items)

  pub front_sound : (n : ℕ) → IsSound (front n)
  front_sound n = last_sound flows live.base (take n live.steps.items) stands.sound (steps_front flows n live.base live.steps.items stands.steps)

  pub front_many : (n : ℕ) → count_of (front n) ≡ count
  front_many n = last_many flows live.base (take n live.steps.items) (steps_front flows n live.base live.steps.items stands.steps) ∙ stands.partitions

  -- it is what the first so many entries make
  pub front_made : (n : ℕ) → placed flows count (begin self.number) (self.slot.mine ++ take n self.entries) ≡ Ok (state_of (front n))
  front_made n =
      subst (λ (v : CellView). placed flows count (begin v.number) (v.slot.mine ++ take n v.entries) ≡ Ok (state_of (front n))) view_is
      (placed_both flows count (begin number) slot.mine (take n (entries_in live.steps.items)) ∙ ap (λ (r : Result Partition ℕ). r >>= λ p. placed flows count p (take n (entries_in live.steps.items))) stands.base
      ∙ ap (placed flows count (state_of live.base)) (take-map (λ (s : Step). entry_of s.entry) n live.steps.items) ∙ steps_placed flows count live.base (take n live.steps.items) stands.partitions (steps_front flows n live.base live.steps.items stands.steps))

  -- what the first so many entries send
  pub frame_sends : (n : ℕ) (sending : List Sending) → all_sent sending ≡ all_sent_from (count_of (front n)) (ends_of (Some (state_of live.base).outboxes)) (state_of (front n)).outboxes → FrameSends flows count (begin self.number) self n sending
  frame_sends n sending sends = record {
    base = state_of live.base;
    behind = state_of (front n);
    is_base = base_of_self flows count begin number slot now out owner round live stands self view_is;
    made = front_made n;
    sends = subst (λ (k : ℕ). all_sent sending ≡ all_sent_from k (ends_of (Some (state_of live.base).outboxes)) (state_of (front n)).outboxes) (front_many n) sends;
  }

  -- what goes out once they are settled
  pub settled_sends : (mode : Mode) (n : ℕ) (base : PartState) (packets : List Packet) (next : CellView) → next.slot.mine ≡ self.slot.mine ++ take n self.entries → base ≡ front n → SendsLater mode (count_of base) (state_of live.base) (state_of base) packets
      → SendsSettled flows count (begin self.number) mode self next packets
  settled_sends mode n base packets next mine_is base_is sends = record {
    before = state_of live.base;
    after = state_of base;
    was = base_of_self flows count begin number slot now out owner round live stands self view_is;
    is = ap (λ (l : List Entry). placed flows count (begin self.number) l) mine_is ∙ front_made n ∙ ap (λ (s : PartState). Ok (state_of s)) (sym base_is);
    sends = subst (λ (k : ℕ). SendsLater mode k (state_of live.base) (state_of base) packets) (ap count_of base_is ∙ front_many n) sends;
  }

  -- what goes out again
  sends_again : (mode : Mode) (packets : List Packet) → SendsAgain mode (count_of live.base) (state_of live.base) (state_of (ahead_of live)) packets → Resends flows count (begin self.number) mode self packets
  sends_again mode packets sends = record {
    base = state_of live.base;
    ahead = state_of (ahead_of live);
    is_base = base_of_self flows count begin number slot now out owner round live stands self view_is;
    is_ahead = ahead_of_self flows count begin number slot now out owner round live stands self view_is;
    sends = subst (λ (k : ℕ). SendsAgain mode k (state_of live.base) (state_of (ahead_of live)) packets) stands.partitions sends;
  }

  pub resends : (mode : Mode) (made : Result (Vec Packet Global) AllocError) → IfOk made (λ packets. SendsAgain mode (count_of live.base) (state_of live.base) (state_of (ahead_of live)) packets.items)
      → IfOk made (λ packets. Resends flows count (begin self.number) mode self packets.items)
  resends mode (Ok packets) sends = sends_again mode packets.items sends
  resends mode (Err error) sends = sends
