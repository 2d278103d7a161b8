-- What a cell lets go of was read, whatever the cell does.
use Rattle.std.proofs.Common.{◌≡◌, ◌==◌, ◌&&◌, ◌≤◌, ℕ, Bool, true, false, cond, List, [], ◌∷◌, ◌++◌, length, take, drop, get_or, None, Some, refl, sym, ap, subst, ◌∙◌, arith}
use Rattle.std.specs.List.{All, Contains, flat_map}
use Rattle.std.proofs.lemmas.Bool.{eqb-true}
use Rattle.std.proofs.lemmas.Grind.{flat_map-append}
use Rattle.std.proofs.lemmas.List.{take-append-drop}
use Rattle.std.proofs.lemmas.List.Concat.{flat_map-cons}
use Rattle.std.proofs.lemmas.List.Elements.{All-append, All-cons, All-nil, All-head, All-tail, All-filter, All-weaker, Contains-get_or}
use Rattle.cell_frames.proofs.GivenUp.{all_unlost}
use Rattle.cell_frames.specs.LetGo.{LetGoBefore}
use Rattle.cell_steps.specs.Fills.{Filled}
use Rattle.cell_steps.specs.Fills.Filled.{nothing, puts, lets_go, goes_on}
use Rattle.cell_steps.specs.declared.mode.Mode.{Mode}
use Rattle.cell_waits.specs.Waits.{Waiting, lasting, lost_by}
use Rattle.commit_gate.proofs.Going.{all_front, all_back}
use Rattle.commit_gate.specs.declared.ledger.Sending.{Sending}
use Rattle.dura_model.specs.Partition.{Partition}
use Rattle.dura_model.specs.World.{Activity}
use Rattle.dura_value.specs.Ids.{Id}
use Rattle.dura_value.specs.Items.{Identity, Item, Entry, took, got, ran, ended, fired, trim}
use Rattle.dura_value.specs.Messages.{Message}
use Rattle.dura_value.specs.declared.outcome.Outcome.{Outcome}
use Rattle.flow_syntax.specs.Syntax.{Flows}
use Rattle.log_items.specs.Entries.{items_in}
use Rattle.log_items.specs.declared.items.Packet.{Packet}
use Rattle.part_steps.specs.Enabled.{is_at}
use Rattle.spec_cell.specs.Comes.{with_wait, Arrives, Records, Offers}
use Rattle.spec_cell.specs.Moves.{IsRewound, IsReset, IsKept}
use Rattle.spec_cell.specs.Picks.{HasPicked}
use Rattle.spec_cell.specs.Seats.{Slot}
use Rattle.spec_cell.specs.Trims.{Trims, trim_by, trims_of, has_trim, has_before, with_trims}
use Rattle.spec_cell.specs.Turns.{MakesEntry, IsIdle, IsSpent}
use Rattle.spec_cell.specs.Views.{CellView, IsNew, HasSettled}
use Rattle.spec_cell.specs.declared.coming.Arrived.{Arrived}
use Rattle.spec_cell.specs.declared.coming.Arrived.TheVariants as arrivals
use Rattle.spec_cell.specs.declared.coming.Offered.{Offered}
use Rattle.spec_cell.specs.declared.coming.Offered.TheVariants as offers
use Rattle.spec_cell.specs.declared.coming.Recorded.{Recorded}
use Rattle.spec_cell.specs.declared.coming.Recorded.TheVariants as records
use Rattle.spec_tracker.specs.Marks.{floors_of}
use Rattle.spec_tracker.specs.declared.marks.Marks.{Marks}
use Rattle.spec_tracker.specs.declared.marks.Read.{Read}
use Rattle.cell_frames.specs.TrimsRead.{IsReadBy, TrimsRead}

-- ---- items

-- where more was read
further : (nexts more : ℕ → ℕ) → ((reader : ℕ) → nexts reader ≤ more reader) → (item : Item) → IsReadBy nexts item → IsReadBy more item
further nexts more above (trim reader number) is = let low = above reader.partition in omega (arith, low, is)
further nexts more above (took message) is = tt
further nexts more above (got source number message) is = tt
further nexts more above (ran from to stamp) is = tt
further nexts more above (ended id task outcome) is = tt
further nexts more above (fired id task stamp) is = tt

let_go : (ends : ℕ → ℕ) (items : List Item) → All (IsReadBy ends) items → LetGoBefore ends items
let_go ends [] all = tt
let_go ends (trim reader number ∷ items) all = (All-head (IsReadBy ends) (trim reader number) items all, let_go ends items (All-tail (IsReadBy ends) (trim reader number) items all))
let_go ends (took message ∷ items) all = let_go ends items (All-tail (IsReadBy ends) (took message) items all)
let_go ends (got source number message ∷ items) all = let_go ends items (All-tail (IsReadBy ends) (got source number message) items all)
let_go ends (ran from to stamp ∷ items) all = let_go ends items (All-tail (IsReadBy ends) (ran from to stamp) items all)
let_go ends (ended id task outcome ∷ items) all = let_go ends items (All-tail (IsReadBy ends) (ended id task outcome) items all)
let_go ends (fired id task stamp ∷ items) all = let_go ends items (All-tail (IsReadBy ends) (fired id task stamp) items all)

-- the items of the first entries, and of those behind them
halves : (n : ℕ) (entries : List Entry) → items_in entries ≡ items_in (take n entries) ++ items_in (drop n entries)
halves n entries = sym (ap items_in (take-append-drop n entries)) ∙ flat_map-append (λ (e : Entry). e.items) (take n entries) (drop n entries)

module _ (nexts : ℕ → ℕ) where
  abbrev Its : Item → Type 0
  Its = IsReadBy nexts

  abbrev ItsWait : Waiting → Type 0
  ItsWait w = IsReadBy nexts w.item

  front : (n : ℕ) (entries : List Entry) → All Its (items_in entries) → All Its (items_in (take n entries))
  front n entries all = all_front Its (items_in (take n entries)) (items_in (drop n entries)) (subst (All Its) (halves n entries) all)

  back : (n : ℕ) (entries : List Entry) → All Its (items_in entries) → All Its (items_in (drop n entries))
  back n entries all = all_back Its (items_in (take n entries)) (items_in (drop n entries)) (subst (All Its) (halves n entries) all)

  pushed : (entries : List Entry) (entry : Entry) → All Its (items_in entries) → All Its entry.items → All Its (items_in (entries ++ entry ∷ []))
  pushed entries entry all one =
      subst (All Its) (sym (flat_map-append (λ (e : Entry). e.items) entries (entry ∷ []) ∙ ap (λ (l : List Item). items_in entries ++ l) (flat_map-cons (λ (e : Entry). e.items) entry [])))
      (All-append Its (items_in entries) (entry.items ++ items_in []) all (All-append Its entry.items (items_in []) one (All-nil Its)))

  -- deliveries and timers let go of nothing
  own_read : (item : Item) (stamp : ℕ) → is_at item stamp ≡ true → Its item
  own_read (ran from to at) stamp is = tt
  own_read (fired id task at) stamp is = tt
  own_read (took message) stamp is = tt
  own_read (got source number message) stamp is = tt
  own_read (ended id task outcome) stamp is = tt
  own_read (trim reader number) stamp is = absurd (cc is)

  -- an entry is filled with what was looked at, and with those
  filled_read : (flows : Flows) (count now : ℕ) (from : Partition) → {looked : List Waiting} {items : List Item} {p : Partition} → Filled flows count now from looked items p → All ItsWait looked → All Its items
  filled_read flows count now from nothing all = All-nil Its
  filled_read flows count now from (puts {looked} {items} {p} {q} before w may is_so is) all =
      All-append Its items (w.item ∷ []) (filled_read flows count now from before (all_front ItsWait looked (w ∷ []) all))
      (All-cons Its w.item [] (All-head ItsWait w [] (all_back ItsWait looked (w ∷ []) all)) (All-nil Its))
  filled_read flows count now from (lets_go {looked} {items} {p} before w cant) all = filled_read flows count now from before (all_front ItsWait looked (w ∷ []) all)
  filled_read flows count now from (goes_on {looked} {items} {p} {q} before item at is) all = All-append Its items (item ∷ []) (filled_read flows count now from before all) (All-cons Its item [] (own_read item _ at) (All-nil Its))

  -- trims of what was read wait behind the others
  abbrev IsTold : Partition → Read → Type 0
  IsTold p read = read.source ≡ p.number → read.next ≤ nexts read.reader

  all_trims : (p : Partition) (reads : List Read) → All (IsTold p) reads → (waits : List Waiting) → All ItsWait waits → All ItsWait (with_trims waits (flat_map (trims_of p) reads))
  all_trims p [] told waits all = all
  all_trims p (read ∷ reads) told waits all =
      subst (λ (l : List Item). All ItsWait (with_trims waits l)) (sym (flat_map-cons (trims_of p) read reads))
      (by (read.source == p.number) refl (has_before (p.outboxes read.reader) read.next) (λ more every. all_trims p reads (All-tail (IsTold p) read reads told) more every))
    where
      rest : List Item
      rest = flat_map (trims_of p) reads

      Rest : Type 0
      Rest = (more : List Waiting) → All ItsWait more → All ItsWait (with_trims more rest)

      put : ItsWait (record { item = trim_by read; activity = None }) → (test : Bool) → Rest → All ItsWait (with_trims (cond test waits (waits ++ record { item = trim_by read; activity = None } ∷ [])) rest)
      put one true go = go waits all
      put one false go = go (waits ++ record { item = trim_by read; activity = None } ∷ []) (All-append ItsWait waits (record { item = trim_by read; activity = None } ∷ []) all (All-cons ItsWait (record { item = trim_by read; activity = None }) [] one (All-nil ItsWait)))

      by : (same : Bool) → (read.source == p.number) ≡ same → (has : Bool) → Rest → All ItsWait (with_trims waits (cond (same && has) (trim_by read ∷ []) [] ++ rest))
      by true is true go = put (All-head (IsTold p) read reads told (eqb-true read.source p.number is)) (has_trim waits (trim_by read)) go
      by true is false go = go waits all
      by false is has go = go waits all

-- ---- the cell

pub new_read : (nexts : ℕ → ℕ) (number : ℕ) (slot : Slot) (owner incarnation : ℕ) (c : CellView) → IsNew number slot owner incarnation c → TrimsRead nexts c
new_read nexts number slot owner incarnation c new = subst (TrimsRead nexts) (sym new.0) (record { held = All-nil (IsReadBy nexts); waits = All-nil (λ (w : Waiting). IsReadBy nexts w.item) })

pub further_read : (nexts more : ℕ → ℕ) (c : CellView) → ((reader : ℕ) → nexts reader ≤ more reader) → TrimsRead nexts c → TrimsRead more c
further_read nexts more c above its = record {
  held = All-weaker (IsReadBy nexts) (IsReadBy more) (further nexts more above) (items_in c.entries) its.held;
  waits = All-weaker (λ (w : Waiting). IsReadBy nexts w.item) (λ (w : Waiting). IsReadBy more w.item) (λ w is. further nexts more above w.item is) c.waits its.waits;
}

module _ (nexts : ℕ → ℕ) (old : CellView) (its : TrimsRead nexts old) where
  abbrev Waits : Waiting → Type 0
  Waits w = IsReadBy nexts w.item

  pub same_read : (new : CellView) → new ≡ old → TrimsRead nexts new
  same_read new same = subst (TrimsRead nexts) (sym same) its

  pub picked_read : (flows : Flows) (count : ℕ) (begin : Partition) (marks : Marks) (new : CellView) (frame : List Entry) (sending : List Sending) → HasPicked flows count begin marks old frame sending new → TrimsRead nexts new
  picked_read flows count begin marks new frame sending picked = subst (TrimsRead nexts) (sym picked.becomes) (record { held = its.held; waits = its.waits })

  pub made_read : (flows : Flows) (count : ℕ) (begin : Partition) (mode : Mode) (limit : ℕ) (new : CellView) (position : ℕ) (packets : List Packet) → MakesEntry flows count begin mode limit old new position packets → TrimsRead nexts new
  made_read flows count begin mode limit new position packets makes =
      let waited : All Waits (makes.looked ++ makes.rest) = subst (All Waits) makes.left its.waits in
      subst (TrimsRead nexts) (sym makes.becomes) (record {
        held = pushed nexts old.entries makes.entry its.held (filled_read nexts flows count old.now makes.begun makes.filled (all_front Waits makes.looked makes.rest waited));
        waits = all_back Waits makes.looked makes.rest waited;
      })

  pub idle_read : (flows : Flows) (count : ℕ) (begin : Partition) (new : CellView) → IsIdle flows count begin old new → TrimsRead nexts new
  idle_read flows count begin new idle = subst (TrimsRead nexts) (sym idle.becomes) (record { held = its.held; waits = All-nil Waits })

  pub spent_read : (flows : Flows) (count : ℕ) (begin : Partition) (new : CellView) (number : ℕ) → IsSpent flows count begin old new number → TrimsRead nexts new
  spent_read flows count begin new number spent = subst (TrimsRead nexts) (sym spent.becomes) (record { held = its.held; waits = all_back Waits spent.looked spent.rest (subst (All Waits) spent.left its.waits) })

  pub settled_read : (n : ℕ) (slot : Slot) (new : CellView) → HasSettled n slot old new → TrimsRead nexts new
  settled_read n slot new settled = subst (TrimsRead nexts) (sym settled.0) (record { held = back nexts n old.entries its.held; waits = its.waits })

  -- ---- what comes

  -- one that waits behind the others
  one_waits : (w : Waiting) → Waits w → TrimsRead nexts (with_wait w old)
  one_waits w is = record { held = its.held; waits = All-append Waits old.waits (w ∷ []) its.waits (All-cons Waits w [] is (All-nil Waits)) }

  pub arrives_read : (ahead : Partition) (source : Identity) (number : ℕ) (message : Message) (arrived : Arrived) (new : CellView) → Arrives ahead source number message old arrived new → TrimsRead nexts new
  arrives_read ahead source number message arrivals.Queued new is = subst (TrimsRead nexts) (sym is.1) (one_waits (record { item = got source number message; activity = None }) tt)
  arrives_read ahead source number message (arrivals.Repeat next) new is = same_read new is.2
  arrives_read ahead source number message (arrivals.Gap next) new is = same_read new is.2

  pub offers_read : (base ahead : Partition) (message : Message) (offered : Offered) (new : CellView) → Offers base ahead message old offered new → TrimsRead nexts new
  offers_read base ahead message offers.Queued new is = subst (TrimsRead nexts) (sym is.1) (one_waits (record { item = took message; activity = None }) tt)
  offers_read base ahead message offers.Clash new is = same_read new is.1
  offers_read base ahead message offers.Taken new is = same_read new is.1
  offers_read base ahead message (offers.Kept answer) new is = same_read new is.1

  pub records_read : (ahead : Partition) (id : Id) (task : ℕ) (activity : Activity) (outcome : Outcome) (recorded : Recorded) (new : CellView) → Records ahead id task activity outcome old recorded new → TrimsRead nexts new
  records_read ahead id task activity outcome records.Recorded new is = subst (TrimsRead nexts) (sym is.1) (one_waits (record { item = ended id task outcome; activity = Some activity }) tt)
  records_read ahead id task activity outcome records.NotPending new is = same_read new is.1

  -- ---- what is given up

  pub rewound_read : (flows : Flows) (count : ℕ) (begin : Partition) (marks : Marks) (new : CellView) (from : ℕ) (lost : Identity) → IsRewound flows count begin marks old new from lost → TrimsRead nexts new
  rewound_read flows count begin marks new from lost rewound = subst (TrimsRead nexts) (sym rewound.becomes) (record { held = front nexts rewound.kept old.entries its.held; waits = All-filter lasting Waits old.waits its.waits })

  pub reset_read : (new : CellView) (from : ℕ) → IsReset from old new → TrimsRead nexts new
  reset_read new from reset = subst (TrimsRead nexts) (sym reset.becomes) (record { held = front nexts reset.kept old.entries its.held; waits = All-filter lasting Waits old.waits its.waits })

  pub kept_read : (flows : Flows) (count : ℕ) (begin : Partition) (marks : Marks) (new : CellView) → IsKept flows count begin marks old new → TrimsRead nexts new
  kept_read flows count begin marks new kept = subst (TrimsRead nexts) (sym kept.becomes) (record { held = its.held; waits = all_unlost Waits (lost_by (floors_of marks)) old.waits its.waits })

  -- ---- what lets go

  pub trims_read : (marks : Marks) (ahead : Partition) (count : ℕ) (new : CellView) → ((read : Read) → Contains marks.reads.items read → read.source ≡ ahead.number → read.next ≤ nexts read.reader) → Trims marks ahead old count new → TrimsRead nexts new
  trims_read marks ahead count new told trims = subst (TrimsRead nexts) (sym trims.1) (record {
    held = its.held;
    waits = all_trims nexts ahead marks.reads.items (λ k d inside. told (get_or marks.reads.items k d) (Contains-get_or marks.reads.items k d inside)) old.waits its.waits;
  })

  pub picked_lets_go : (ends : ℕ → ℕ) (flows : Flows) (count : ℕ) (begin : Partition) (marks : Marks) (new : CellView) (frame : List Entry) (sending : List Sending) → ((reader : ℕ) → nexts reader ≤ ends reader) → HasPicked flows count begin marks old frame sending new → LetGoBefore ends (items_in frame)
  picked_lets_go ends flows count begin marks new frame sending above picked =
      subst (λ (l : List Entry). LetGoBefore ends (items_in l)) (sym picked.first)
      (let_go ends (items_in (take (length frame) old.entries)) (All-weaker (IsReadBy nexts) (IsReadBy ends) (further nexts ends above) (items_in (take (length frame) old.entries)) (front nexts (length frame) old.entries its.held)))
