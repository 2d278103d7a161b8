-- What more items and entries make of a row.
use Rattle.std.proofs.Common.{◌≡◌, ℕ, suc, ◌+◌, ◌<◌, List, [], ◌∷◌, ◌++◌, length, map, take, drop, get_or, refl, sym, ◌∙◌, ap, subst, arith}
use Rattle.std.specs.List.{All}
use Rattle.std.proofs.lemmas.List.{map-append, append-nil, length-map}
use Rattle.std.proofs.lemmas.List.{get_or-map as get_mapped}
use Rattle.std.proofs.lemmas.List.Elements.{All-nil, All-cons, All-head, All-tail}
use Rattle.std.proofs.lemmas.Grind.{flat_map-append}
use Rattle.std.proofs.lemmas.List.Concat.{flat_map-cons}
use Rattle.dura_value.specs.Items.{Identity, Item, Entry, took, got, ran, ended, fired, trim}
use Rattle.log_items.specs.Streams.{Outbox, with_posted, with_first, Sent, with_sent, boxes_after}
use Rattle.log_items.specs.declared.items.Item as item_rows
use Rattle.log_items.specs.declared.frames.Entry as entry_rows
use Rattle.log_items.specs.Plain.{item_of, items_of, entry_of, entries_of}
use Rattle.commit_gate.specs.Ledgers.{Ledger, after_items}
use Rattle.commit_gate.proofs.Tested.{take_more, split_at}
use Rattle.log_items.specs.Readings.{with_next, nexts_after, with_reader, readers_after}
use Rattle.log_items.specs.Entries.{items_in, incarnations_in}

pub sent_append : (boxes : ℕ → Outbox) (a b : List Sent) → with_sent boxes (a ++ b) ≡ with_sent (with_sent boxes a) b
sent_append boxes [] b = refl
sent_append boxes (one ∷ a) b = sent_append (with_posted boxes one.to one.posted) a b

nexts_append : (nexts : ℕ → ℕ) (a b : List Item) → nexts_after nexts (a ++ b) ≡ nexts_after (nexts_after nexts a) b
nexts_append nexts [] b = refl
nexts_append nexts (got source number message ∷ a) b = nexts_append (with_next nexts source.partition (number + 1)) a b
nexts_append nexts (took message ∷ a) b = nexts_append nexts a b
nexts_append nexts (ran from to stamp ∷ a) b = nexts_append nexts a b
nexts_append nexts (ended id task outcome ∷ a) b = nexts_append nexts a b
nexts_append nexts (fired id task stamp ∷ a) b = nexts_append nexts a b
nexts_append nexts (trim reader number ∷ a) b = nexts_append nexts a b

boxes_append : (boxes : ℕ → Outbox) (a b : List Item) → boxes_after boxes (a ++ b) ≡ boxes_after (boxes_after boxes a) b
boxes_append boxes [] b = refl
boxes_append boxes (trim reader number ∷ a) b = boxes_append (with_first boxes reader.partition number) a b
boxes_append boxes (took message ∷ a) b = boxes_append boxes a b
boxes_append boxes (got source number message ∷ a) b = boxes_append boxes a b
boxes_append boxes (ran from to stamp ∷ a) b = boxes_append boxes a b
boxes_append boxes (ended id task outcome ∷ a) b = boxes_append boxes a b
boxes_append boxes (fired id task stamp ∷ a) b = boxes_append boxes a b

pub after_append : (a b : List Item) (row : Ledger) → after_items (a ++ b) row ≡ after_items b (after_items a row)
after_append a b row =
    ap (λ (n : ℕ → ℕ). record row { nexts = n; boxes = boxes_after row.boxes (a ++ b) }) (nexts_append row.nexts a b)
    ∙ ap (λ (x : ℕ → Outbox). record row { nexts = nexts_after (nexts_after row.nexts a) b; boxes = x }) (boxes_append row.boxes a b)

pub after_item : (items : List item_rows.Item) (i : ℕ) (item : item_rows.Item) (row : Ledger) → i < length items → item ≡ get_or items i item → after_items (item_of item ∷ []) (after_items (items_of (take i items)) row) ≡ after_items (items_of (take (i + 1) items)) row
after_item items i item row low is = sym (ap (λ (l : List Item). after_items l row) (take_more item_of items i item low is) ∙ after_append (items_of (take i items)) (item_of item ∷ []) row)

readers_append : (reader : Identity) (readers : ℕ → Identity) (a b : List Item) → readers_after reader readers (a ++ b) ≡ readers_after reader (readers_after reader readers a) b
readers_append reader readers [] b = refl
readers_append reader readers (got source number message ∷ a) b = readers_append reader (with_reader readers source.partition reader) a b
readers_append reader readers (took message ∷ a) b = readers_append reader readers a b
readers_append reader readers (ran from to stamp ∷ a) b = readers_append reader readers a b
readers_append reader readers (ended id task outcome ∷ a) b = readers_append reader readers a b
readers_append reader readers (fired id task stamp ∷ a) b = readers_append reader readers a b
readers_append reader readers (trim taker number ∷ a) b = readers_append reader readers a b

pub readers_item : (items : List item_rows.Item) (i : ℕ) (item : item_rows.Item) (reader : Identity) (readers : ℕ → Identity) → i < length items → item ≡ get_or items i item
    → readers_after reader (readers_after reader readers (items_of (take i items))) (item_of item ∷ []) ≡ readers_after reader readers (items_of (take (i + 1) items))
readers_item items i item reader readers low is = sym (ap (readers_after reader readers) (take_more item_of items i item low is) ∙ readers_append reader readers (items_of (take i items)) (item_of item ∷ []))

pub more_items : (entries : List entry_rows.Entry) (i : ℕ) (entry : entry_rows.Entry) → i < length entries → entry ≡ get_or entries i entry → items_in (entries_of (take (i + 1) entries)) ≡ items_in (entries_of (take i entries)) ++ items_of entry.items
more_items entries i entry low is =
    let front = entries_of (take i entries) in
    ap items_in (take_more entry_of entries i entry low is) ∙ flat_map-append (λ (e : Entry). e.items) front (entry_of entry ∷ []) ∙ ap (λ (l : List Item). items_in front ++ l) (flat_map-cons (λ (e : Entry). e.items) (entry_of entry) [] ∙ append-nil (items_of entry.items))

pub after_entry : (entries : List entry_rows.Entry) (i : ℕ) (entry : entry_rows.Entry) (row : Ledger) → i < length entries → entry ≡ get_or entries i entry → after_items (items_of entry.items) (after_items (items_in (entries_of (take i entries))) row) ≡ after_items (items_in (entries_of (take (i + 1) entries))) row
after_entry entries i entry row low is =
    sym (ap (λ (l : List Item). after_items l row) (more_items entries i entry low is) ∙ after_append (items_in (entries_of (take i entries))) (items_of entry.items) row)

pub more_lives : (entries : List entry_rows.Entry) (i : ℕ) (entry : entry_rows.Entry) → i < length entries → entry ≡ get_or entries i entry → incarnations_in (entries_of (take (i + 1) entries)) ≡ incarnations_in (entries_of (take i entries)) ++ entry.incarnation ∷ []
more_lives entries i entry low is = ap incarnations_in (take_more entry_of entries i entry low is) ∙ map-append (λ (e : Entry). e.incarnation) (entries_of (take i entries)) (entry_of entry ∷ [])

-- what holds of all holds of one
pub all_here : {X Y : Type 0} (f : X → Y) (P : Y → Type 0) (xs : List X) (i : ℕ) (x : X) → i < length xs → x ≡ get_or xs i x → All P (map f xs) → P (f x)
all_here f P xs i x low is all = subst P (get_mapped f xs i x (f x) low ∙ ap f (sym is)) (all i (f x) (omega (arith, length-map xs f)))

pub all_front : {X : Type 0} (P : X → Type 0) (xs ys : List X) → All P (xs ++ ys) → All P xs
all_front P [] ys all = All-nil P
all_front P (x ∷ xs) ys all = All-cons P x xs (All-head P x (xs ++ ys) all) (all_front P xs ys (All-tail P x (xs ++ ys) all))

pub all_back : {X : Type 0} (P : X → Type 0) (xs ys : List X) → All P (xs ++ ys) → All P ys
all_back P [] ys all = all
all_back P (x ∷ xs) ys all = all_back P xs ys (All-tail P x (xs ++ ys) all)

pub items_here : (P : Item → Type 0) (entries : List entry_rows.Entry) (i : ℕ) (entry : entry_rows.Entry) → i < length entries → entry ≡ get_or entries i entry → All P (items_in (entries_of entries)) → All P (items_of entry.items)
items_here P entries i entry low is all =
    let front = entries_of (take i entries) in
    let rest = entries_of (drop (suc i) entries) in
    let split : items_in (entries_of entries) ≡ items_in front ++ (items_of entry.items ++ items_in rest) =
    ap items_in (split_at entry_of entries i entry low is) ∙ flat_map-append (λ (e : Entry). e.items) front (entry_of entry ∷ rest) ∙ ap (λ (l : List Item). items_in front ++ l) (flat_map-cons (λ (e : Entry). e.items) (entry_of entry) rest) in
    all_front P (items_of entry.items) (items_in rest) (all_back P (items_in front) (items_of entry.items ++ items_in rest) (subst (All P) split all))
