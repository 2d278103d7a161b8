-- What the test of a frame comes to.
use Rattle.std.specs.Bool.{Decides}
use Rattle.std.proofs.Common.{Bool, true, false, ◌≡◌, inl, inr, ℕ, suc, ◌+◌, ◌<◌, List, [], ◌∷◌, ◌++◌, length, map, take, drop, get_or, refl, sym, ◌∙◌, ap, subst, add-one, append_assoc}
use Rattle.std.specs.List.{All}
use Rattle.std.proofs.Math.Seq.{take-suc, drop-cons}
use Rattle.std.proofs.lemmas.List.{take-append-drop, map-append, append-nil}
use Rattle.std.proofs.lemmas.Grind.{flat_map-append}
use Rattle.std.proofs.lemmas.List.Concat.{flat_map-cons}
use Rattle.log_items.specs.declared.items.Item as item_rows
use Rattle.log_items.specs.declared.frames.Entry as rows_frames
use Rattle.log_items.specs.Plain.{item_of, items_of, entry_of, entries_of}
use Rattle.std.proofs.lemmas.List.Elements.{All-nil, All-cons, All-append}
use Rattle.dura_value.specs.Items.{Identity, Item, Entry}
use Rattle.dura_value.specs.declared.identity.Identity as names
use Rattle.dura_value.specs.Items as plain
use Rattle.commit_gate.specs.declared.unmet.Unmet.{Unmet}
use Rattle.commit_gate.specs.declared.unmet.Unmet.TheVariants.{Differs}
use Rattle.commit_gate.specs.Met.{IsMet}
use Rattle.dura_value.specs.Views.{identity_of}
use Rattle.commit_gate.specs.Refused.{Names, IsReady, IsNotReady, Refuses, Passes, RefusesFirst}
use Rattle.commit_gate.specs.Ledgers.{Ledger}
use Rattle.log_items.specs.Entries.{items_in}

-- by its name
pub name_refuses : (rows : ℕ → Ledger) (floors : ℕ → List plain.Floor) (p : ℕ) (item : Item) (e : Identity) (unmet : Unmet) → Names item e → IsNotReady rows floors e unmet → Refuses rows floors p item unmet
name_refuses rows floors p item e unmet names why = record { e = e; names = names; refused = inl why }

-- or by what it is taken for
pub taken_wrong : (rows : ℕ → Ledger) (floors : ℕ → List plain.Floor) (p : ℕ) (item : Item) (dep : names.Identity) → Names item (identity_of dep) → IsReady rows floors (identity_of dep) → (IsMet rows p item → ⊥) → Refuses rows floors p item (Differs dep)
taken_wrong rows floors p item dep names ready unmet = record { e = identity_of dep; names = names; refused = inr (refl, ready, unmet) }

module _ (rows : ℕ → Ledger) (floors : ℕ → List plain.Floor) (p : ℕ) where
  -- more items behind those that pass
  pub refused_behind : (front items rest : List Item) (unmet : Unmet) → All (Passes rows floors p) front → RefusesFirst rows floors p items unmet → RefusesFirst rows floors p (front ++ (items ++ rest)) unmet
  refused_behind front items rest unmet passed first = record {
    before = front ++ first.before;
    item = first.item;
    behind = first.behind ++ rest;
    split = ap (λ (l : List Item). front ++ (l ++ rest)) first.split ∙ simp append_assoc;
    passed = All-append (Passes rows floors p) front first.before passed first.passed;
    refuses = first.refuses;
  }

  pub refused_one : (front rest : List Item) (item : Item) (unmet : Unmet) → All (Passes rows floors p) front → Refuses rows floors p item unmet → RefusesFirst rows floors p (front ++ item ∷ rest) unmet
  refused_one front rest item unmet passed refused = record { before = front; item = item; behind = rest; split = refl; passed = passed; refuses = refused }

-- a test that fell
pub not_true : (r : Bool) (P : Type 0) → r ≡ false → Decides r P → P → ⊥
not_true r P fell decides holds = let other : r ≡ true = decides.1 holds in cc

-- ---- loops

pub take_more : {X Y : Type 0} (f : X → Y) (xs : List X) (i : ℕ) (x : X) → i < length xs → x ≡ get_or xs i x → map f (take (i + 1) xs) ≡ map f (take i xs) ++ f x ∷ []
take_more f xs i x low is =
    ap (λ (n : ℕ). map f (take n xs)) (add-one i) ∙ ap (map f) (take-suc xs i x low ∙ ap (λ (y : _). take i xs ++ y ∷ []) (sym is)) ∙ map-append f (take i xs) (x ∷ [])

pub split_at : {X Y : Type 0} (f : X → Y) (xs : List X) (i : ℕ) (x : X) → i < length xs → x ≡ get_or xs i x → map f xs ≡ map f (take i xs) ++ f x ∷ map f (drop (suc i) xs)
split_at f xs i x low is =
    ap (map f) (sym (take-append-drop i xs) ∙ ap (λ (l : _). take i xs ++ l) (drop-cons xs i x low ∙ ap (λ (y : _). y ∷ drop (suc i) xs) (sym is))) ∙ map-append f (take i xs) (x ∷ drop (suc i) xs)

module _ (rows : ℕ → Ledger) (floors : ℕ → List plain.Floor) (p : ℕ) where
  abbrev Pass : Item → Type 0
  Pass = Passes rows floors p

  -- over items
  pub item_stops : (items : List item_rows.Item) (i : ℕ) (item : item_rows.Item) (unmet : Unmet) → i < length items → item ≡ get_or items i item → All Pass (items_of (take i items)) → Refuses rows floors p (item_of item) unmet
      → RefusesFirst rows floors p (items_of items) unmet
  item_stops items i item unmet low is passed refused =
      subst (λ (l : List Item). RefusesFirst rows floors p l unmet) (sym (split_at item_of items i item low is)) (refused_one rows floors p (items_of (take i items)) (items_of (drop (suc i) items)) (item_of item) unmet passed refused)

  pub item_passes : (items : List item_rows.Item) (i : ℕ) (item : item_rows.Item) → i < length items → item ≡ get_or items i item → All Pass (items_of (take i items)) → Pass (item_of item) → All Pass (items_of (take (i + 1) items))
  item_passes items i item low is passed here =
      subst (All Pass) (sym (take_more item_of items i item low is)) (All-append Pass (items_of (take i items)) (item_of item ∷ []) passed (All-cons Pass (item_of item) [] here (All-nil Pass)))

  -- over entries
  pub entry_stops : (entries : List rows_frames.Entry) (i : ℕ) (entry : rows_frames.Entry) (unmet : Unmet) → i < length entries → entry ≡ get_or entries i entry → All Pass (items_in (entries_of (take i entries)))
      → RefusesFirst rows floors p (items_of entry.items) unmet → RefusesFirst rows floors p (items_in (entries_of entries)) unmet
  entry_stops entries i entry unmet low is passed refused =
      let front = entries_of (take i entries) in
      let rest = entries_of (drop (suc i) entries) in
      let split : items_in (entries_of entries) ≡ items_in front ++ (items_of entry.items ++ items_in rest) =
      ap items_in (split_at entry_of entries i entry low is) ∙ flat_map-append (λ (e : Entry). e.items) front (entry_of entry ∷ rest) ∙ ap (λ (l : List Item). items_in front ++ l) (flat_map-cons (λ (e : Entry). e.items) (entry_of entry) rest) in
      subst (λ (l : List Item). RefusesFirst rows floors p l unmet) (sym split) (refused_behind rows floors p (items_in front) (items_of entry.items) (items_in rest) unmet passed refused)

  pub entry_passes : (entries : List rows_frames.Entry) (i : ℕ) (entry : rows_frames.Entry) → i < length entries → entry ≡ get_or entries i entry → All Pass (items_in (entries_of (take i entries))) → All Pass (items_of entry.items)
      → All Pass (items_in (entries_of (take (i + 1) entries)))
  entry_passes entries i entry low is passed here =
      let front = entries_of (take i entries) in
      let more : items_in (entries_of (take (i + 1) entries)) ≡ items_in front ++ items_of entry.items =
      ap items_in (take_more entry_of entries i entry low is) ∙ flat_map-append (λ (e : Entry). e.items) front (entry_of entry ∷ []) ∙ ap (λ (l : List Item). items_in front ++ l) (flat_map-cons (λ (e : Entry). e.items) (entry_of entry) [] ∙ append-nil (items_of entry.items)) in
      subst (All Pass) (sym more) (All-append Pass (items_in front) (items_of entry.items) passed here)
