-- A frame was settled: the cell has the same entries, the store is later, and what goes out the frame's entries sent.
use Rattle.std.proofs.Common.{◌≡◌, inl, inr, ◌<◌, ◌≤◌, ◌∙◌, ℕ, zero, suc, ◌+◌, List, [], ◌∷◌, ◌++◌, length, take, drop, map, Some, Ok, Result, sym, ap, subst, arith, append_assoc, length-append, slice_get}
use Rattle.std.specs.List.{All, Contains}
use Rattle.std.proofs.lemmas.Grind.{flat_map-append}
use Rattle.std.proofs.lemmas.List.{take-append-drop, map-append}
use Rattle.cell_frames.proofs.Frames.{stands_behind}
use Rattle.cell_frames.specs.Joined.{StoreView}
use Rattle.cell_packets.specs.Packets.{Packet, packet_of, ends_of}
use Rattle.cell_steps.specs.Sent.{SendsLater, sent_between}
use Rattle.cell_steps.specs.declared.mode.Mode.{Mode}
use Rattle.cell_steps.specs.declared.mode.Mode.TheVariants as modes
use Rattle.commit_gate.proofs.Going.{all_back}
use Rattle.commit_gate.proofs.Stay.{get_append}
use Rattle.commit_gate.specs.Ledgers.{Ledger, IsKnown, log_length}
use Rattle.dura_model.proofs.Appending.{placed_both}
use Rattle.dura_model.specs.Entries.{placed}
use Rattle.dura_model.specs.Partition.{Partition, fresh}
use Rattle.dura_value.specs.Dependencies.{Lost}
use Rattle.dura_value.specs.Items.{Identity, Entry, Floor}
use Rattle.dura_value.specs.Reading.{◌>>=◌}
use Rattle.dura_value.specs.Views.{message_of}
use Rattle.hub_store.proofs.Settling.{of_part-append}
use Rattle.hub_store.specs.Trail.{Settled, of_part}
use Rattle.log_items.specs.Entries.{items_in, incarnations_in, AreInTurn}
use Rattle.log_items.specs.declared.items.Packet as own
use Rattle.many_logs.specs.Placing.{states_after, of_partition}
use Rattle.many_rules.proofs.Meeting.{below_or}
use Rattle.many_rules.specs.Ledgers.{ledgers}
use Rattle.many_rules.specs.Local.{in_turn, outside}
use Rattle.many_rules.specs.Rules.{Rules}
use Rattle.spec_cell.specs.Sends.{SendsSettled}
use Rattle.spec_cell.specs.Views.{CellView, HasFacts, HasSettled, next_at}
use Rattle.trail_states.specs.HaveMade.{HaveMade}
use Rattle.world_laws.proofs.Later.{Later, no_more, all_true_still, waits_still, lost_still}
use Rattle.world_laws.proofs.Lines.{begin_number, many, shows}
use Rattle.world_laws.proofs.Naming.{in_map}
use Rattle.world_laws.proofs.Packets.{packet_of_streams}
use Rattle.world_laws.proofs.Sending.{frame_sent}
use Rattle.world_laws.specs.Made.{MadeEntry, name_of, line_in, IsKnownIn, IsTrue, IsSent, CellMade}

-- ---- the store

module _ (rules : Rules) (begun : states_after rules.flows rules.count fresh rules.recovered ≡ Some rules.begin) (old new : StoreView) (more : List Settled) (trail : new.trail ≡ old.trail ++ more) (have : HaveMade rules old.trail) (have_then : HaveMade rules new.trail) where
  part_then : (q : ℕ) → of_part q new.trail ≡ of_part q old.trail ++ of_part q more
  part_then q = ap (of_part q) trail ∙ of_part-append q old.trail more

  no_length : (q position : ℕ) → rules.count ≤ q → position < log_length (ledgers rules q (of_part q old.trail)) → ⊥
  no_length q position past low = let none : log_length (ledgers rules q (of_part q old.trail)) ≡ 0 = ap log_length (outside rules q (of_part q old.trail) past) in absurd (omega (arith, none, low))

  -- a log grows no shorter
  pub longer : (q position : ℕ) → position < log_length (ledgers rules q (of_part q old.trail)) → position < log_length (ledgers rules q (of_part q new.trail))
  longer q position low = elim (below_or q rules.count) [
    | inl below ↦
        let before = many rules begun q below old.trail have in
        let then = many rules begun q below new.trail have_then in
        let grown : length (of_part q new.trail) ≡ length (of_part q old.trail ++ of_part q more) = ap length (part_then q) in
        let long = length-append (of_part q old.trail) (of_part q more) in
        omega (arith, low, before, then, grown, long)
    | inr past ↦ absurd (no_length q position past low)
  ]

  -- and forgets nobody
  pub known_then : (e : Identity) → IsKnownIn rules old e → IsKnownIn rules new e
  known_then e known = elim (below_or e.partition rules.count) [
    | inl below ↦
        let rec = of_partition e.partition rules.recovered in
        let mine = of_part e.partition old.trail in
        let here : slice_get (incarnations_in (rec ++ mine)) e.position ≡ Some e.incarnation = subst (λ (l : Ledger). IsKnown l e) (shows rules begun e.partition below old.trail have) known in
        let grown : slice_get (incarnations_in (rec ++ mine) ++ incarnations_in (of_part e.partition more)) e.position ≡ Some e.incarnation = get_append (incarnations_in (rec ++ mine)) (incarnations_in (of_part e.partition more)) e.position e.incarnation here in
        let all : incarnations_in (rec ++ of_part e.partition new.trail) ≡ incarnations_in (rec ++ mine) ++ incarnations_in (of_part e.partition more) =
        ap (λ (l : List Entry). incarnations_in (rec ++ l)) (part_then e.partition) ∙ ap incarnations_in (sym (append_assoc rec mine (of_part e.partition more))) ∙ map-append (λ (entry : Entry). entry.incarnation) (rec ++ mine) (of_part e.partition more) in
        subst (λ (l : Ledger). IsKnown l e) (sym (shows rules begun e.partition below new.trail have_then)) (subst (λ (l : List ℕ). slice_get l e.position ≡ Some e.incarnation) (sym all) grown)
    | inr past ↦ absurd (let none : slice_get [] e.position ≡ Some e.incarnation = subst (λ (l : Ledger). IsKnown l e) (outside rules e.partition (of_part e.partition old.trail) past) known in cc none)
  ]

  -- where no incarnation began it is only later
  pub settled_later : ((q : ℕ) → new.floors q ≡ old.floors q) → Later rules old new
  settled_later floors = record {
    ready = λ e ready. record { settled = longer e.partition e.position ready.settled; kept = subst (λ (f : List Floor). Lost f e → ⊥) (sym (floors e.partition)) ready.kept };
    known = known_then;
    floors = λ q floor inside. subst (λ (f : List Floor). Contains f floor) (sym (floors q)) inside;
  }

-- ---- the cell

-- a cell with the same entries in all, of which none is out
pub settled_cell : (rules : Rules) (made : List MadeEntry) (old new : StoreView) (p : ℕ) (c after : CellView) → Later rules old new → CellMade rules made old p c → HasSettled c.out after.slot c after → after.slot.mine ≡ c.slot.mine ++ take c.out c.entries → CellMade rules made new p after
settled_cell rules made old new p c after later cell settled mine =
    let is = settled.0 in
    let entries : after.entries ≡ drop c.out c.entries = ap (λ (v : CellView). v.entries) is in
    let same : line_in after ≡ line_in c =
    (λ i. mine i ++ entries i) ∙ append_assoc c.slot.mine (take c.out c.entries) (drop c.out c.entries) ∙ ap (λ (l : List Entry). c.slot.mine ++ l) (take-append-drop c.out c.entries) in
    let incarnation : after.incarnation ≡ c.incarnation = ap (λ (v : CellView). v.incarnation) is in
    let out : after.out ≡ 0 = ap (λ (v : CellView). v.out) is in
    let more = no_more p made in
    record {
      held = λ front entry behind split. cell.held front entry behind (sym same ∙ split);
      fate = λ one there at. elim (cell.fate one there at) [ inl begins ↦ inl (begins.0, same ∙ begins.1) | inr lost ↦ inr (lost_still rules p made made more old new later p (name_of one) lost) ];
      younger = λ one there at. let low = cell.younger one there at in omega (arith, low, incarnation);
      holds = subst (λ (l : List Entry). All (IsTrue rules made new p) (items_in l)) (sym entries)
          (all_true_still rules p made made more old new later p (items_in (drop c.out c.entries))
          (all_back (IsTrue rules made old p) (items_in (take c.out c.entries)) (items_in (drop c.out c.entries))
          (subst (All (IsTrue rules made old p)) (flat_map-append (λ (e : Entry). e.items) (take c.out c.entries) (drop c.out c.entries)) (subst (λ (l : List Entry). All (IsTrue rules made old p) (items_in l)) (sym (take-append-drop c.out c.entries)) cell.holds))));
      waits = subst (λ (l : List _). All (λ w. IsTrue rules made new p w.item) l) (ap (λ (v : CellView). v.waits) (sym is)) (waits_still rules p made made more old new later p c.waits cell.waits);
      ready = λ item e inside names. let none : Contains (items_in []) item = subst (λ (n : ℕ). Contains (items_in (take n after.entries)) item) out inside in let low : none.0 < 0 = none.1 in absurd (omega arith);
    }

-- ---- what goes out

module _ (rules : Rules) (begun : states_after rules.flows rules.count fresh rules.recovered ≡ Some rules.begin) (made : List MadeEntry) (s : StoreView) (p : ℕ) (below : p < rules.count) (c after : CellView) (cell : CellMade rules made s p c)
    (facts : HasFacts rules.flows rules.count (rules.begin p) c) (mine : after.slot.mine ≡ c.slot.mine ++ take c.out c.entries) (packets : List own.Packet) where
  pub later_out : (mode : Mode) → SendsSettled rules.flows rules.count (rules.begin p) mode c after packets → (packet : own.Packet) → Contains packets packet
      → IsSent rules made (record { partition = packet.src; incarnation = packet.inc; position = packet.pos }) packet.dst packet.seq (message_of packet.message)
  later_out mode sends packet inside = by mode sends.sends
    where
      before_is : sends.before ≡ facts.base
      before_is = let both : Ok sends.before ≡ Ok facts.base = sym sends.was ∙ facts.settled in cc both

      at : sends.before.number ≡ p
      at = (stands_behind rules.flows rules.count c.slot.mine (rules.begin p) sends.before sends.was).number ∙ begin_number rules begun p below

      made_by : placed rules.flows rules.count sends.before (take c.out c.entries) ≡ Ok sends.after
      made_by =
          sym (ap (placed rules.flows rules.count (rules.begin p)) mine ∙ placed_both rules.flows rules.count (rules.begin p) c.slot.mine (take c.out c.entries) ∙ ap (λ (r : Result Partition ℕ). r >>= λ q. placed rules.flows rules.count q (take c.out c.entries)) sends.was)
          ∙ sends.is

      turn : AreInTurn sends.before.position (take c.out c.entries)
      turn = subst (λ (b : Partition). AreInTurn b.position (take c.out c.entries)) (sym before_is) (front_turn c.out facts.base.position c.entries (in_turn (next_at facts.base) c.entries facts.numbered))
        where
          front_turn : (n position : ℕ) (entries : List Entry) → AreInTurn position entries → AreInTurn position (take n entries)
          front_turn zero position entries all = tt
          front_turn (suc n) position [] all = tt
          front_turn (suc n) position (entry ∷ entries) all = (all.0, front_turn n (position + 1) entries all.1)

      every : (front : List Entry) (entry : Entry) (behind : List Entry) → take c.out c.entries ≡ front ++ entry ∷ behind → Contains made (record { partition = p; front = c.slot.mine ++ front; entry = entry })
      every front entry behind split =
          cell.held (c.slot.mine ++ front) entry (behind ++ drop c.out c.entries)
          (ap (λ (l : List Entry). c.slot.mine ++ l) (sym (take-append-drop c.out c.entries) ∙ ap (λ (l : List Entry). l ++ drop c.out c.entries) split ∙ append_assoc front (entry ∷ behind) (drop c.out c.entries))
          ∙ sym (append_assoc c.slot.mine front (entry ∷ (behind ++ drop c.out c.entries))))

      settled_out : map packet_of packets ≡ sent_between rules.count sends.before sends.after → IsSent rules made (record { partition = packet.src; incarnation = packet.inc; position = packet.pos }) packet.dst packet.seq (message_of packet.message)
      settled_out is =
          let of_streams = packet_of_streams rules.count sends.after.number (ends_of (Some sends.before.outboxes)) sends.after.outboxes (packet_of packet) (subst (λ (l : List Packet). Contains l (packet_of packet)) is (in_map packet_of packets packet inside)) in
          inl (frame_sent rules p below made packet.dst packet.seq (packet_of packet).posted c.slot.mine (take c.out c.entries) sends.before sends.after at turn sends.was made_by every of_streams.past of_streams.posted)

      by : (mode : Mode) → SendsLater mode rules.count sends.before sends.after packets → IsSent rules made (record { partition = packet.src; incarnation = packet.inc; position = packet.pos }) packet.dst packet.seq (message_of packet.message)
      by modes.Global none = absurd (let there : Contains [] packet = subst (λ (l : List own.Packet). Contains l packet) none inside in let low : there.0 < 0 = there.1 in omega arith)
      by modes.Local is = settled_out is
      by modes.None is = settled_out is
