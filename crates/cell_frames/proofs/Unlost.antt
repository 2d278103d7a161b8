-- What a cell holds was not given up, whatever the cell does.
use Rattle.std.proofs.Common.{◌≡◌, ◌⊎◌, inl, inr, ◌<◌, ◌≤◌, ℕ, zero, suc, ◌+◌, List, [], ◌∷◌, ◌++◌, length, take, drop, Some, sym, ap, subst, arith}
use Rattle.std.specs.List.{All, Contains, slice_get, slice_index_or}
use Rattle.std.proofs.lemmas.List.Elements.{All-append, All-cons, All-nil, Contains-push_cases}
use Rattle.std.proofs.lemmas.Option.{slice_get_within, get_or_from_slice_get}
use Rattle.cell_frames.specs.Unlost.{HoldsUnlost, floor_of}
use Rattle.cell_steps.specs.declared.mode.Mode.{Mode}
use Rattle.commit_gate.specs.Unlost.{IsFrameUnlost}
use Rattle.commit_gate.specs.declared.ledger.Sending.{Sending}
use Rattle.dura_model.specs.Partition.{Partition}
use Rattle.dura_value.specs.Items.{Entry, Floor, Identity}
use Rattle.flow_syntax.specs.Syntax.{Flows}
use Rattle.log_items.specs.declared.items.Packet.{Packet}
use Rattle.many_rules.proofs.Meeting.{numbered_at}
use Rattle.part_items.specs.Numbered.{Next, behind, IsNumbered}
use Rattle.spec_cell.specs.Moves.{IsRewound, IsReset}
use Rattle.spec_cell.specs.Picks.{HasPicked}
use Rattle.spec_cell.specs.Seats.{Slot}
use Rattle.spec_cell.specs.Turns.{MakesEntry}
use Rattle.spec_cell.specs.Views.{CellView, HasFacts, HasSettled, next_at}
use Rattle.spec_tracker.specs.declared.marks.Marks.{Marks}

-- ---- lists

get_front : (n : ℕ) (xs : List Entry) (k : ℕ) (x : Entry) → slice_get (take n xs) k ≡ Some x → slice_get xs k ≡ Some x
get_front zero xs k x is = absurd (cc is)
get_front (suc n) [] k x is = absurd (cc is)
get_front (suc n) (y ∷ ys) zero x is = is
get_front (suc n) (y ∷ ys) (suc k) x is = get_front n ys k x is

short : (n : ℕ) (xs : List Entry) (k : ℕ) (x : Entry) → slice_get (take n xs) k ≡ Some x → k < n
short zero xs k x is = absurd (cc is)
short (suc n) [] k x is = absurd (cc is)
short (suc n) (y ∷ ys) zero x is = omega arith
short (suc n) (y ∷ ys) (suc k) x is = let rest = short n ys k x is in omega (arith, rest)

get_behind : (n : ℕ) (xs : List Entry) (k : ℕ) (x : Entry) → slice_get (drop n xs) k ≡ Some x → slice_get xs (n + k) ≡ Some x
get_behind zero xs k x is = let same : k ≡ zero + k = omega arith in subst (λ (m : ℕ). slice_get xs m ≡ Some x) same is
get_behind (suc n) [] k x is = absurd (cc is)
get_behind (suc n) (y ∷ ys) k x is = let same : suc (n + k) ≡ suc n + k = omega arith in subst (λ (m : ℕ). slice_get (y ∷ ys) m ≡ Some x) same (get_behind n ys k x is)

get_pushed : (xs : List Entry) (y : Entry) (k : ℕ) (x : Entry) → slice_get (xs ++ y ∷ []) k ≡ Some x → (slice_get xs k ≡ Some x) ⊎ (y ≡ x)
get_pushed [] y zero x is = let same : y ≡ x = cc is in inr same
get_pushed [] y (suc k) x is = absurd (cc is)
get_pushed (z ∷ zs) y zero x is = inl is
get_pushed (z ∷ zs) y (suc k) x is = get_pushed zs y k x is

pub numbered_index : (next : Next) (entries : List Entry) (i : ℕ) (d : Entry) → IsNumbered next entries → i < length entries → (slice_index_or entries i d).position ≡ next.position + i
numbered_index next [] i d numbered inside = absurd (omega (arith, inside))
numbered_index next (entry ∷ entries) zero d numbered inside = let here : entry.position ≡ next.position + 0 = omega (arith, numbered.0) in here
numbered_index next (entry ∷ entries) (suc i) d numbered inside = let rest = numbered_index (behind entry) entries i d numbered.2 (omega (arith, inside)) in omega (arith, rest, numbered.0)

-- an entry of those that stay when others are given up stands before these
low_floor : (floors : List Floor) (incarnation : ℕ) → All (λ (floor : Floor). floor.incarnation ≤ incarnation) floors → All (λ (floor : Floor). floor.incarnation ≤ incarnation + 1) floors
low_floor floors incarnation low = λ k d inside. let one = low k d inside in omega (arith, one)

-- ---- what the cell does

module _ (position : ℕ) (floors : List Floor) (old : CellView) (holds : HoldsUnlost position floors old) where
  pub taken : (n : ℕ) → IsFrameUnlost position floors (take n old.entries)
  taken n = λ k entry at. holds.unlost k entry (get_front n old.entries k entry at)

  pub picked_unlost : (flows : Flows) (count : ℕ) (begin : Partition) (marks : Marks) (frame : List Entry) (sending : List Sending) (new : CellView) → HasPicked flows count begin marks old frame sending new → IsFrameUnlost position floors frame
  picked_unlost flows count begin marks frame sending new picked = subst (IsFrameUnlost position floors) (sym picked.first) (taken (length frame))

  pub made_unlost : (flows : Flows) (count : ℕ) (begin : Partition) (mode : Mode) (limit : ℕ) (new : CellView) (at : ℕ) (packets : List Packet) → MakesEntry flows count begin mode limit old new at packets → HoldsUnlost position floors new
  made_unlost flows count begin mode limit new at packets makes = subst (HoldsUnlost position floors) (sym makes.becomes) (record {
    unlost = λ k entry there floor inside early. elim (get_pushed old.entries makes.entry k entry there) [
      | inl before ↦ holds.unlost k entry before floor inside early
      | inr last ↦
          let same = makes.made_by in
          let own : makes.entry.incarnation ≡ entry.incarnation = ap (λ (e : Entry). e.incarnation) last in
          let low = latest_at floor inside in
          absurd (omega (arith, early, same, own, low))
    ];
    latest = holds.latest;
  })
    where
      latest_at : (floor : Floor) → Contains floors floor → floor.incarnation ≤ old.incarnation
      latest_at floor (k, inside, is) = subst (λ (f : Floor). f.incarnation ≤ old.incarnation) is (holds.latest k floor inside)

  -- the settled state moves on by the first so many
  pub settled_unlost : (n : ℕ) (slot : Slot) (new : CellView) → HasSettled n slot old new → HoldsUnlost (position + n) floors new
  settled_unlost n slot new settled = subst (HoldsUnlost (position + n) floors) (sym settled.0) (record {
    unlost = λ k entry there floor inside early. let low = holds.unlost (n + k) entry (get_behind n old.entries k entry there) floor inside early in omega (arith, low);
    latest = holds.latest;
  })

  -- all but the first so many are given up, which stand before this floor
  given_up_unlost : (kept out from : ℕ) (new : CellView) → new.entries ≡ take kept old.entries → new.incarnation ≡ old.incarnation + 1 → ((k : ℕ) (entry : Entry) → slice_get (take kept old.entries) k ≡ Some entry → position + k < from) → HoldsUnlost position (floors ++ floor_of new from ∷ []) new
  given_up_unlost kept out from new entries incarnation before = record {
    unlost = λ k entry there floor inside early.
        let here : slice_get (take kept old.entries) k ≡ Some entry = subst (λ (l : List Entry). slice_get l k ≡ Some entry) entries there in
        elim (Contains-push_cases floors (floor_of new from) floor inside) [
          | inl older ↦ taken kept k entry here floor older early
          | inr last ↦ subst (λ (f : Floor). position + k < f.from) last (before k entry here)
        ];
    latest = subst (λ (n : ℕ). All (λ (floor : Floor). floor.incarnation ≤ n) (floors ++ floor_of new from ∷ [])) (sym incarnation)
        (All-append (λ (floor : Floor). floor.incarnation ≤ old.incarnation + 1) floors (floor_of new from ∷ []) (low_floor floors old.incarnation holds.latest)
        (All-cons (λ (floor : Floor). floor.incarnation ≤ old.incarnation + 1) (floor_of new from) [] (omega (arith, incarnation)) (All-nil (λ (floor : Floor). floor.incarnation ≤ old.incarnation + 1))));
  }

  pub rewound_unlost : (flows : Flows) (count : ℕ) (begin : Partition) (facts : HasFacts flows count begin old) → facts.base.position ≡ position → (marks : Marks) (new : CellView) (from : ℕ) (lost : Identity) → IsRewound flows count begin marks old new from lost
      → HoldsUnlost position (floors ++ floor_of new from ∷ []) new
  rewound_unlost flows count begin facts here marks new from lost rewound =
      given_up_unlost rewound.kept old.out from new (ap (λ (c : CellView). c.entries) rewound.becomes) (ap (λ (c : CellView). c.incarnation) rewound.becomes) (λ k entry there.
      let low = kept_low k entry there in
      let first = numbered_index (next_at facts.base) old.entries rewound.kept entry facts.numbered rewound.inside in
      let floor = rewound.floor_is entry in
      omega (arith, low, first, floor, here))
    where
      kept_low : (k : ℕ) (entry : Entry) → slice_get (take rewound.kept old.entries) k ≡ Some entry → k < rewound.kept
      kept_low k entry there = short rewound.kept old.entries k entry there

  pub reset_unlost : (flows : Flows) (count : ℕ) (begin : Partition) (facts : HasFacts flows count begin old) → facts.base.position ≡ position → (new : CellView) (from : ℕ) → IsReset from old new → HoldsUnlost position (floors ++ floor_of new from ∷ []) new
  reset_unlost flows count begin facts here new from reset =
      given_up_unlost reset.kept 0 from new (ap (λ (c : CellView). c.entries) reset.becomes) (ap (λ (c : CellView). c.incarnation) reset.becomes) (λ k entry there.
      let within = slice_get_within (take reset.kept old.entries) k entry there in
      let low = subst (λ (e : Entry). e.position < from) (get_or_from_slice_get (take reset.kept old.entries) k entry entry there) (reset.before k entry within) in
      let at = numbered_at (next_at facts.base) old.entries k entry facts.numbered (get_front reset.kept old.entries k entry there) in
      omega (arith, low, at, here))
