-- One entry more was made: it joins all that were made, what it takes in was sent and what it lets go was read, since it came of what waited,
-- and what it sends goes out in its name.
use Rattle.std.proofs.Common.{◌≡◌, ◌⊎◌, inl, inr, ◌<◌, ◌≤◌, ◌∙◌, true, ℕ, suc, ◌+◌, List, [], ◌∷◌, ◌++◌, length, take, Some, Ok, Option, Result, refl, sym, ap, subst, arith, append_assoc, length-append, append-nil}
use Rattle.std.specs.List.{All, Contains}
use Rattle.std.proofs.lemmas.Grind.{flat_map-append}
use Rattle.std.proofs.lemmas.List.{take-append-le}
use Rattle.std.proofs.lemmas.List.Elements.{All-nil, All-cons, All-head, All-append, Contains-append_left, Contains-push, Contains-push_cases}
use Rattle.cell_frames.proofs.Frames.{stands_behind}
use Rattle.cell_frames.specs.Joined.{StoreView}
use Rattle.cell_packets.specs.Packets.{Packet, packet_of, end_of, ends_of}
use Rattle.cell_steps.proofs.Filled.{filled_accepted}
use Rattle.cell_steps.specs.Fills.{Filled}
use Rattle.cell_steps.specs.Fills.Filled.{nothing, puts, lets_go, goes_on}
use Rattle.cell_steps.specs.Sent.{SendsAtOnce}
use Rattle.cell_steps.specs.declared.mode.Mode.{Mode}
use Rattle.cell_steps.specs.declared.mode.Mode.TheVariants as modes
use Rattle.cell_waits.specs.Waits.{Waiting}
use Rattle.commit_gate.proofs.Going.{all_front, all_back}
use Rattle.commit_gate.specs.Met.{HasPosted}
use Rattle.dura_model.proofs.Appending.{placed_both}
use Rattle.dura_model.specs.Entries.{all_accepted, entry_accepted, or_place, placed}
use Rattle.dura_model.specs.Partition.{Partition, enter, fresh}
use Rattle.dura_value.specs.Items.{Identity, Item, Entry, Posted, took, got, ran, ended, fired, trim}
use Rattle.dura_value.specs.Reading.{◌>>=◌}
use Rattle.dura_value.specs.Views.{message_of}
use Rattle.flow_syntax.specs.Syntax.{Flows}
use Rattle.log_items.specs.Entries.{items_in, identity_at, AreInTurn}
use Rattle.log_items.specs.Streams.{Outbox}
use Rattle.log_items.specs.declared.items.Packet as own
use Rattle.many_logs.specs.Placing.{states_after, of_partition}
use Rattle.many_rules.specs.Local.{in_turn}
use Rattle.many_rules.specs.Rules.{Rules}
use Rattle.part_steps.specs.Enabled.{is_at, stamp_at}
use Rattle.spec_cell.specs.Turns.{MakesEntry}
use Rattle.spec_cell.specs.Views.{CellView, HasFacts, next_at}
use Rattle.world_laws.proofs.Later.{Later, More, all_true_still, waits_still}
use Rattle.world_laws.proofs.Lines.{begin_number, begin_position}
use Rattle.world_laws.proofs.Lists.{turn_behind}
use Rattle.world_laws.proofs.Naming.{in_map}
use Rattle.world_laws.proofs.Packets.{packet_of_streams}
use Rattle.world_laws.proofs.Sending.{sender_of}
use Rattle.world_laws.specs.Made.{MadeEntry, line_of, line_in, IsTrue, IsSent, CellMade}

-- ---- lists

-- one of a list with one more at its end is the last, or one of the others
split_last : {X : Type 0} (xs : List X) (x : X) (front : List X) (y : X) (behind : List X) → xs ++ x ∷ [] ≡ front ++ y ∷ behind → ((front ≡ xs) × (y ≡ x)) ⊎ ((rest : List X) × (xs ≡ front ++ y ∷ rest))
split_last [] x [] y behind same = inl (refl, cc same)
split_last [] x (z ∷ front) y behind same = absurd (let lengths : 1 ≡ suc (length (front ++ y ∷ behind)) = ap length same in let long = length-append front (y ∷ behind) in omega (arith, lengths, long))
split_last (w ∷ xs) x [] y behind same = inr (xs, let e : w ≡ y = cc same in ap (λ (v : _). v ∷ xs) e)
split_last (w ∷ xs) x (z ∷ front) y behind same =
    let first : w ≡ z = cc same in
    let others : xs ++ x ∷ [] ≡ front ++ y ∷ behind = cc same in
    elim (split_last xs x front y behind others) [
      | inl last ↦ inl ((λ i. sym first i ∷ last.0 i), last.1)
      | inr inside ↦ inr (inside.0, λ i. first i ∷ inside.1 i)
    ]

-- ---- what fills an entry came of what waited

module _ (P : Item → Type 0) (own_items : (item : Item) (stamp : ℕ) → is_at item stamp ≡ true → P item) (flows : Flows) (count now : ℕ) where
  pub filled_true : {from to : Partition} {looked : List Waiting} {items : List Item} → Filled flows count now from looked items to → All (λ w. P w.item) looked → All P items
  filled_true nothing all = All-nil P
  filled_true {from} (puts {looked} {items} {p} {q} before w may_wait is_so is) all =
      let Q : Waiting → Type 0 = λ (v : Waiting). P v.item in
      All-append P items (w.item ∷ []) (filled_true before (all_front Q looked (w ∷ []) all)) (All-cons P w.item [] (All-head Q w [] (all_back Q looked (w ∷ []) all)) (All-nil P))
  filled_true {from} (lets_go {looked} {items} {p} before w cant) all = filled_true before (all_front (λ (v : Waiting). P v.item) looked (w ∷ []) all)
  filled_true {from} (goes_on {looked} {items} {p} {q} before item at is) all = All-append P items (item ∷ []) (filled_true before all) (All-cons P item [] (own_items item (stamp_at p now) at) (All-nil P))

-- deliveries and timers take in nothing
own_true : (rules : Rules) (made : List MadeEntry) (s : StoreView) (p : ℕ) (item : Item) (stamp : ℕ) → is_at item stamp ≡ true → IsTrue rules made s p item
own_true rules made s p (ran from to moment) stamp at = tt
own_true rules made s p (fired id task moment) stamp at = tt
own_true rules made s p (took message) stamp at = tt
own_true rules made s p (ended id task outcome) stamp at = tt
own_true rules made s p (got source number message) stamp at = absurd (cc at)
own_true rules made s p (trim reader number) stamp at = absurd (cc at)

module _ (rules : Rules) (begun : states_after rules.flows rules.count fresh rules.recovered ≡ Some rules.begin) (made : List MadeEntry) (s : StoreView) (p : ℕ) (below : p < rules.count) (c after : CellView) (cell : CellMade rules made s p c)
    (facts : HasFacts rules.flows rules.count (rules.begin p) c) (facts_after : HasFacts rules.flows rules.count (rules.begin p) after) (mode : Mode) (limit position : ℕ) (packets : List own.Packet)
    (makes : MakesEntry rules.flows rules.count (rules.begin p) mode limit c after position packets) where
  abbrev one : MadeEntry
  one = record { partition = p; front = line_in c; entry = makes.entry }

  abbrev pub made_then : List MadeEntry
  made_then = made ++ one ∷ []

  pub more_by_one : More p made made_then
  more_by_one = record {
    still = λ other there. Contains-append_left made (one ∷ []) other there;
    others = λ other there apart. elim (Contains-push_cases made one other there) [ inl before ↦ before | inr this ↦ absurd (apart (ap (λ (m : MadeEntry). m.partition) (sym this))) ];
  }

  line_after : line_in after ≡ line_in c ++ makes.entry ∷ []
  line_after = ap line_in makes.becomes ∙ sym (append_assoc c.slot.mine c.entries (makes.entry ∷ []))

  -- where it stands
  pub stands_there : makes.entry.position ≡ length (of_partition p rules.recovered) + length (line_in c)
  stands_there =
      let base = facts_after.base in
      let mine : after.slot.mine ≡ c.slot.mine = ap (λ (v : CellView). v.slot.mine) makes.becomes in
      let entries : after.entries ≡ c.entries ++ makes.entry ∷ [] = ap (λ (v : CellView). v.entries) makes.becomes in
      let at = (stands_behind rules.flows rules.count after.slot.mine (rules.begin p) base facts_after.settled).position in
      let first = begin_position rules begun p below in
      let turn : AreInTurn base.position (c.entries ++ makes.entry ∷ []) = subst (AreInTurn base.position) entries (in_turn (next_at base) after.entries facts_after.numbered) in
      let here = (turn_behind base.position c.entries (makes.entry ∷ []) turn).0 in
      let long = length-append c.slot.mine c.entries in
      let same : length after.slot.mine ≡ length c.slot.mine = ap length mine in
      omega (arith, here, at, first, long, same)

  pub numbered_then : (other : MadeEntry) → ((old : MadeEntry) → Contains made old → old.entry.position ≡ length (of_partition old.partition rules.recovered) + length old.front) → Contains made_then other
      → other.entry.position ≡ length (of_partition other.partition rules.recovered) + length other.front
  numbered_then other before there = elim (Contains-push_cases made one other there) [
    | inl old ↦ before other old
    | inr this ↦ subst (λ (m : MadeEntry). m.entry.position ≡ length (of_partition m.partition rules.recovered) + length m.front) this stands_there
  ]

  -- ---- its state

  -- the entry is accepted in the state ahead
  accepted : placed rules.flows rules.count makes.is_begun.ahead (makes.entry ∷ []) ≡ Ok makes.after
  accepted =
      let filled : all_accepted rules.flows rules.count makes.begun makes.entry.items ≡ Some makes.after = filled_accepted rules.flows rules.count c.now makes.filled in
      let begun_is : makes.begun ≡ enter makes.entry.incarnation makes.is_begun.ahead = makes.is_begun.entered ∙ ap (λ (n : ℕ). enter n makes.is_begun.ahead) (sym makes.made_by) in
      let there : entry_accepted rules.flows rules.count makes.is_begun.ahead makes.entry ≡ Some makes.after = subst (λ (b : Partition). all_accepted rules.flows rules.count b makes.entry.items ≡ Some makes.after) begun_is filled in
      ap (λ (o : Option Partition). or_place makes.entry.position o >>= λ next. placed rules.flows rules.count next []) there

  pub makes_state : placed rules.flows rules.count (rules.begin p) (line_of one) ≡ Ok makes.after
  makes_state =
      placed_both rules.flows rules.count (rules.begin p) (line_in c) (makes.entry ∷ [])
      ∙ ap (λ (r : Result Partition ℕ). r >>= λ q. placed rules.flows rules.count q (makes.entry ∷ [])) makes.is_begun.is_ahead
      ∙ accepted

  -- ---- the cell

  items_true : All (IsTrue rules made s p) makes.entry.items
  items_true =
      let Q : Waiting → Type 0 = λ (w : Waiting). IsTrue rules made s p w.item in
      filled_true (IsTrue rules made s p) (own_true rules made s p) rules.flows rules.count c.now makes.filled (all_front Q makes.looked makes.rest (subst (All Q) makes.left cell.waits))

  module _ (later : Later rules s s) where
    pub turned : CellMade rules made_then s p after
    turned = record {
      held = λ front e behind split. elim (split_last (line_in c) makes.entry front e behind (sym line_after ∙ split)) [
        | inl last ↦ subst (Contains made_then) (λ i. record { partition = p; front = sym last.0 i; entry = sym last.1 i }) (Contains-push made one)
        | inr inside ↦ Contains-append_left made (one ∷ []) (record { partition = p; front = front; entry = e }) (cell.held front e inside.0 inside.1)
      ];
      fate = λ other there at. elim (Contains-push_cases made one other there) [
        | inl before ↦ elim (cell.fate other before at) [
          | inl begins ↦ inl (begins.0 ++ makes.entry ∷ [], line_after ∙ ap (λ (l : List Entry). l ++ makes.entry ∷ []) begins.1 ∙ append_assoc (line_of other) begins.0 (makes.entry ∷ []))
          | inr lost ↦ inr lost
        ]
        | inr this ↦ inl ([], line_after ∙ ap line_of this ∙ sym (append-nil (line_of other)))
      ];
      younger = λ other there at.
          let same : after.incarnation ≡ c.incarnation = ap (λ (v : CellView). v.incarnation) makes.becomes in
          elim (Contains-push_cases made one other there) [
            | inl before ↦ let low = cell.younger other before at in omega (arith, low, same)
            | inr this ↦ let own_one : makes.entry.incarnation ≡ other.entry.incarnation = ap (λ (m : MadeEntry). m.entry.incarnation) this in let by = makes.made_by in omega (arith, own_one, by, same)
          ];
      holds = subst (λ (l : List Entry). All (IsTrue rules made_then s p) (items_in l)) (ap (λ (v : CellView). v.entries) (sym makes.becomes))
          (subst (All (IsTrue rules made_then s p)) (sym (flat_map-append (λ (e : Entry). e.items) c.entries (makes.entry ∷ [])))
          (All-append (IsTrue rules made_then s p) (items_in c.entries) (items_in (makes.entry ∷ [])) (all_true_still rules p made made_then more_by_one s s later p (items_in c.entries) cell.holds)
          (All-append (IsTrue rules made_then s p) makes.entry.items [] (all_true_still rules p made made_then more_by_one s s later p makes.entry.items items_true) (All-nil (IsTrue rules made_then s p)))));
      waits = subst (λ (l : List Waiting). All (λ w. IsTrue rules made_then s p w.item) l) (ap (λ (v : CellView). v.waits) (sym makes.becomes))
          (waits_still rules p made made_then more_by_one s s later p makes.rest (all_back (λ (w : Waiting). IsTrue rules made s p w.item) makes.looked makes.rest (subst (All (λ w. IsTrue rules made s p w.item)) makes.left cell.waits)));
      ready = λ item e inside names.
          let out : after.out ≡ c.out = ap (λ (v : CellView). v.out) makes.becomes in
          let entries : after.entries ≡ c.entries ++ makes.entry ∷ [] = ap (λ (v : CellView). v.entries) makes.becomes in
          let first : take after.out after.entries ≡ take c.out c.entries = (λ i. take (out i) (entries i)) ∙ take-append-le c.out c.entries (makes.entry ∷ []) facts.within in
          cell.ready item e (subst (λ (l : List Entry). Contains (items_in l) item) first inside) names;
    }

  -- ---- what goes out

  -- what its streams have beyond where they ended it sent
  sender : (target number : ℕ) (posted : Posted) → end_of (makes.is_begun.ahead.outboxes target) ≤ number → HasPosted (makes.after.outboxes target) number posted → identity_at p makes.entry ≡ posted.entry
  sender target number posted past has =
      let at = stands_behind rules.flows rules.count (line_in c) (rules.begin p) makes.is_begun.ahead makes.is_begun.is_ahead in
      let first = begin_position rules begun p below in
      sender_of rules p below makes.is_begun.ahead makes.after makes.entry (at.number ∙ begin_number rules begun p below) (omega (arith, stands_there, at.position, first)) accepted target number posted past has

  goes_out : (mode : Mode) → SendsAtOnce mode rules.count makes.begun makes.after packets → (packet : own.Packet) → Contains packets packet
      → IsSent rules made_then (record { partition = packet.src; incarnation = packet.inc; position = packet.pos }) packet.dst packet.seq (message_of packet.message)
  goes_out modes.Global sends packet inside =
      let of_streams = packet_of_streams rules.count makes.after.number (ends_of (Some makes.begun.outboxes)) makes.after.outboxes (packet_of packet) (subst (λ (l : List Packet). Contains l (packet_of packet)) sends (in_map packet_of packets packet inside)) in
      let boxes : makes.begun.outboxes ≡ makes.is_begun.ahead.outboxes = ap (λ (b : Partition). b.outboxes) makes.is_begun.entered in
      let past : end_of (makes.is_begun.ahead.outboxes packet.dst) ≤ packet.seq = subst (λ (f : ℕ → Outbox). end_of (f packet.dst) ≤ packet.seq) boxes of_streams.past in
      let name = sender packet.dst packet.seq (packet_of packet).posted past of_streams.posted in
      inl (record {
        one = one;
        there = Contains-push made one;
        name = name;
        sent = record {
          after = makes.after;
          makes = makes_state;
          posted = subst (λ (e : Identity). HasPosted (makes.after.outboxes packet.dst) packet.seq (record { entry = e; message = message_of packet.message })) (sym name) of_streams.posted;
        };
      })
  goes_out modes.Local sends packet inside = absurd (let none : Contains [] packet = subst (λ (l : List own.Packet). Contains l packet) sends inside in let low : none.0 < 0 = none.1 in omega arith)
  goes_out modes.None sends packet inside = absurd (let none : Contains [] packet = subst (λ (l : List own.Packet). Contains l packet) sends inside in let low : none.0 < 0 = none.1 in omega arith)

  pub packets_sent : (packet : own.Packet) → Contains packets packet → IsSent rules made_then (record { partition = packet.src; incarnation = packet.inc; position = packet.pos }) packet.dst packet.seq (message_of packet.message)
  packets_sent packet inside = goes_out mode makes.sends packet inside
