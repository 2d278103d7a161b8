-- What holds of a cell holds where the store is later, more entries were made, and it has the same entries.
use Rattle.std.proofs.Common.{◌≡◌, ◌≢◌, ◌⊎◌, inl, inr, ◌<◌, ◌∙◌, ℕ, ◌+◌, List, length, Some, sym, ap, subst, arith, slice_get, slice_set}
use Rattle.std.specs.List.{All, Contains}
use Rattle.std.proofs.lemmas.Bool.{cases_eq}
use Rattle.std.proofs.lemmas.List.{length-set}
use Rattle.std.proofs.lemmas.List.Elements.{All-weaker}
use Rattle.cell_frames.specs.Joined.{StoreView}
use Rattle.cell_waits.specs.Waits.{Waiting}
use Rattle.commit_gate.specs.Ledgers.{IsKnown}
use Rattle.dura_value.specs.Dependencies.{Lost}
use Rattle.dura_value.specs.Items.{Identity, Item, Floor, took, got, ran, ended, fired, trim}
use Rattle.dura_value.specs.Messages.{Message}
use Rattle.dura_value.specs.Views.{message_of}
use Rattle.gated_store.proofs.Fitting.{at_same, at_other}
use Rattle.gated_store.specs.Follows.{ledgers_at}
use Rattle.hub_store.specs.Trail.{Settled, of_part}
use Rattle.log_items.specs.Entries.{items_in}
use Rattle.log_items.specs.declared.items.Packet.{Packet}
use Rattle.many_logs.specs.Placing.{of_partition}
use Rattle.many_rules.specs.Ledgers.{ledgers}
use Rattle.many_rules.specs.Rules.{Rules}
use Rattle.spec_cell.specs.Views.{CellView}
use Rattle.spec_tracker.specs.declared.marks.Marks.{Marks}
use Rattle.world_core.specs.World.{WorldView}
use Rattle.world_laws.specs.Made.{MadeEntry, name_of, IsReadyIn, IsKnownIn, IsSent, IsTrue, CellMade, MarksHold, AreMade}

-- a store later on: what was ready and known is so still, and no floor is forgotten
pub record Later (rules : Rules) (old new : StoreView) : Type 0 where
  pub ready : (e : Identity) → IsReadyIn rules old e → IsReadyIn rules new e
  pub known : (e : Identity) → IsKnownIn rules old e → IsKnownIn rules new e
  pub floors : (p : ℕ) (floor : Floor) → Contains (old.floors p) floor → Contains (new.floors p) floor

-- more entries were made, none of other partitions
pub record More (partition : ℕ) (old new : List MadeEntry) : Type 0 where
  pub still : (one : MadeEntry) → Contains old one → Contains new one
  pub others : (one : MadeEntry) → Contains new one → one.partition ≢ partition → Contains old one

-- nothing was settled, and no incarnation began
pub same_later : (rules : Rules) (old new : StoreView) → new.trail ≡ old.trail → ((p : ℕ) → new.floors p ≡ old.floors p) → Later rules old new
same_later rules old new trail floors = record {
  ready = λ e ready. record {
    settled = subst (λ (t : List Settled). e.position < length (ledgers_at (ledgers rules) t e.partition).incarnations) (sym trail) ready.settled;
    kept = subst (λ (f : List Floor). Lost f e → ⊥) (sym (floors e.partition)) ready.kept;
  };
  known = λ e known. subst (λ (t : List Settled). IsKnown (ledgers rules e.partition (of_part e.partition t)) e) (sym trail) known;
  floors = λ p floor inside. subst (λ (f : List Floor). Contains f floor) (sym (floors p)) inside;
}

pub later_both : (rules : Rules) (old middle new : StoreView) → Later rules old middle → Later rules middle new → Later rules old new
later_both rules old middle new first second = record {
  ready = λ e ready. second.ready e (first.ready e ready);
  known = λ e known. second.known e (first.known e known);
  floors = λ p floor inside. second.floors p floor (first.floors p floor inside);
}

pub no_more : (partition : ℕ) (made : List MadeEntry) → More partition made made
no_more partition made = record { still = λ one there. there; others = λ one there apart. there }

module _ (rules : Rules) (p : ℕ) (made made_new : List MadeEntry) (more : More p made made_new) where
  pub sent_still : (source : Identity) (target number : ℕ) (message : Message) → IsSent rules made source target number message → IsSent rules made_new source target number message
  sent_still source target number message sent = elim sent [
    | inl was ↦ inl (record { one = was.one; there = more.still was.one was.there; name = was.name; sent = was.sent })
    | inr first ↦ inr first
  ]

  module _ (old new : StoreView) (later : Later rules old new) where
    pub true_still : (q : ℕ) (item : Item) → IsTrue rules made old q item → IsTrue rules made_new new q item
    true_still q (got source number message) is = sent_still source q number message is
    true_still q (trim reader number) is = later.known reader is
    true_still q (took message) is = tt
    true_still q (ran from to stamp) is = tt
    true_still q (ended id task outcome) is = tt
    true_still q (fired id task stamp) is = tt

    pub all_true_still : (q : ℕ) (items : List Item) → All (IsTrue rules made old q) items → All (IsTrue rules made_new new q) items
    all_true_still q items all = All-weaker (IsTrue rules made old q) (IsTrue rules made_new new q) (true_still q) items all

    pub waits_still : (q : ℕ) (waits : List Waiting) → All (λ w. IsTrue rules made old q w.item) waits → All (λ w. IsTrue rules made_new new q w.item) waits
    waits_still q waits all = All-weaker (λ (w : Waiting). IsTrue rules made old q w.item) (λ (w : Waiting). IsTrue rules made_new new q w.item) (λ w is. true_still q w.item is) waits all

    pub lost_still : (q : ℕ) (e : Identity) → Lost (old.floors q) e → Lost (new.floors q) e
    lost_still q e lost = record { floor = lost.floor; there = later.floors q lost.floor lost.there; partition = lost.partition; later = lost.later; below = lost.below }

    -- another partition's cell
    pub other_still : (q : ℕ) (c : CellView) → q ≢ p → CellMade rules made old q c → CellMade rules made_new new q c
    other_still q c apart cell = record {
      held = λ front entry behind split. more.still (record { partition = q; front = front; entry = entry }) (cell.held front entry behind split);
      fate = λ one there at. elim (cell.fate one (more.others one there (λ same. apart (sym at ∙ same))) at) [ inl begins ↦ inl begins | inr lost ↦ inr (lost_still q (name_of one) lost) ];
      younger = λ one there at. cell.younger one (more.others one there (λ same. apart (sym at ∙ same))) at;
      holds = all_true_still q (items_in c.entries) cell.holds;
      waits = waits_still q c.waits cell.waits;
      ready = λ item e inside names. later.ready e (cell.ready item e inside names);
    }

    pub marks_still : (marks : Marks) → MarksHold rules old marks → MarksHold rules new marks
    marks_still marks hold = record {
      ready = λ e low ready. later.ready e (hold.ready e low ready);
      readers = λ read inside some. later.known (record { partition = read.reader; incarnation = read.inc; position = read.pos }) (hold.readers read inside some);
    }

-- a cell stays where the store is later
pub other_store : (rules : Rules) (made : List MadeEntry) (old new : StoreView) (later : Later rules old new) (p : ℕ) (c : CellView) → CellMade rules made old p c → CellMade rules made new p c
other_store rules made old new later p c cell =
    let apart : p ≢ p + 1 = λ same. let e = same in absurd (omega (arith, e)) in
    other_still rules (p + 1) made made (no_more (p + 1) made) old new later p c apart cell

-- one cell became another: all others, the packets and the marks stay
pub world_moves : (rules : Rules) (made made_new : List MadeEntry) (old new : WorldView) (p : ℕ) (after : CellView) → p < length old.cells → AreMade rules made old → Later rules old.store new.store → More p made made_new
    → new.cells ≡ slice_set old.cells p after → ((one : MadeEntry) → Contains made_new one → one.partition ≡ p → one.entry.position ≡ length (of_partition one.partition rules.recovered) + length one.front)
    → CellMade rules made_new new.store p after
    → ((packet : Packet) → Contains new.packets packet → Contains old.packets packet ⊎ IsSent rules made_new (record { partition = packet.src; incarnation = packet.inc; position = packet.pos }) packet.dst packet.seq (message_of packet.message))
    → ((marks : Marks) → Contains new.marks marks → Contains old.marks marks ⊎ MarksHold rules new.store marks)
    → AreMade rules made_new new
world_moves rules made made_new old new p after below are later more cells numbered cell packets marks = record {
  below = λ one there.
      let long : length new.cells ≡ length old.cells = ap length cells ∙ length-set old.cells p after in
      elim (cases_eq one.partition p) [ inl here ↦ omega (arith, here, below, long) | inr apart ↦ let low = are.below one (more.others one there apart) in omega (arith, low, long) ];
  numbered = λ one there. elim (cases_eq one.partition p) [ inl here ↦ numbered one there here | inr apart ↦ are.numbered one (more.others one there apart) ];
  cells = λ q c is.
      let set : slice_get (slice_set old.cells p after) q ≡ Some c = subst (λ (l : List CellView). slice_get l q ≡ Some c) cells is in
      elim (cases_eq q p) [
        | inl same ↦
            let this : c ≡ after = at_same old.cells p after c below (subst (λ (k : ℕ). slice_get (slice_set old.cells p after) k ≡ Some c) same set) in
            subst (λ (k : ℕ). CellMade rules made_new new.store k c) (sym same) (subst (CellMade rules made_new new.store p) (sym this) cell)
        | inr apart ↦ other_still rules p made made_new more old.store new.store later q c apart (are.cells q c (at_other old.cells p q after c apart set))
      ];
  packets = λ packet inside. elim (packets packet inside) [
    | inl before ↦ sent_still rules p made made_new more (record { partition = packet.src; incarnation = packet.inc; position = packet.pos }) packet.dst packet.seq (message_of packet.message) (are.packets packet before)
    | inr sent ↦ sent
  ];
  marks = λ one inside. elim (marks one inside) [ inl before ↦ marks_still rules p made made_new more old.store new.store later one (are.marks one before) | inr hold ↦ hold ];
}

-- the same with no other cell, where the store is later
pub world_stays : (rules : Rules) (made : List MadeEntry) (old new : WorldView) → AreMade rules made old → Later rules old.store new.store → new.cells ≡ old.cells → new.packets ≡ old.packets → new.marks ≡ old.marks → AreMade rules made new
world_stays rules made old new are later cells packets marks = record {
  below = λ one there. subst (λ (l : List CellView). one.partition < length l) (sym cells) (are.below one there);
  numbered = are.numbered;
  cells = λ q c is.
      let before = are.cells q c (subst (λ (l : List CellView). slice_get l q ≡ Some c) cells is) in
      other_store rules made old.store new.store later q c before;
  packets = λ packet inside. are.packets packet (subst (λ (l : List Packet). Contains l packet) packets inside);
  marks = λ one inside. marks_still rules 0 made made (no_more 0 made) old.store new.store later one (are.marks one (subst (λ (l : List Marks). Contains l one) marks inside));
}
