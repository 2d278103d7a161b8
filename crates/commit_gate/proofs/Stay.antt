-- What is met stays met while another partition settles a frame.
use Rattle.std.proofs.Common.{◌≡◌, ◌≢◌, inl, inr, ℕ, zero, suc, ◌+◌, ◌-◌, ◌==◌, ◌<◌, ◌≤◌, Bool, true, false, cond, List, [], ◌∷◌, ◌++◌, drop, Some, refl, sym, subst, arith}
use Rattle.std.specs.List.{All, slice_get}
use Rattle.std.proofs.Math.Dec.{leb}
use Rattle.std.proofs.lemmas.Bool.{leb-false, eqb-true, cases_eq}
use Rattle.std.proofs.lemmas.List.Elements.{All-nil, All-cons, All-head, All-tail}
use Rattle.dura_value.specs.Items.{Identity, Item, Entry, took, got, ran, ended, fired, trim}
use Rattle.dura_value.specs.Items.{Posted}
use Rattle.log_items.specs.Streams.{Outbox, with_posted, begins_at, with_first, Sent, with_sent, boxes_after}
use Rattle.commit_gate.specs.Ledgers.{Ledger, IsKnown, after_frame}
use Rattle.commit_gate.specs.Met.{HasPosted, IsMet, AreMet}
use Rattle.log_items.specs.Readings.{with_next, nexts_after, ReadOn}
use Rattle.log_items.specs.Entries.{items_in, incarnations_in}

-- ---- lists

pub get_append : {X : Type 0} (xs ys : List X) (i : ℕ) (x : X) → slice_get xs i ≡ Some x → slice_get (xs ++ ys) i ≡ Some x
get_append [] ys i x is = cc
get_append (y ∷ xs) ys zero x is = is
get_append (y ∷ xs) ys (suc i) x is = get_append xs ys i x is

pub get_drop : {X : Type 0} (n : ℕ) (xs : List X) (i : ℕ) (x : X) → slice_get xs (n + i) ≡ Some x → slice_get (drop n xs) i ≡ Some x
get_drop zero xs i x is = let e : 0 + i ≡ i = omega arith in subst (λ (k : ℕ). slice_get xs k ≡ Some x) e is
get_drop (suc n) [] i x is = cc
get_drop (suc n) (y ∷ xs) i x is =
    let e : suc n + i ≡ suc (n + i) = omega arith in
    get_drop n xs i x (subst (λ (k : ℕ). slice_get (y ∷ xs) k ≡ Some x) e is)

-- ---- streams

-- one more message stands behind
grown_stays : (box : Outbox) (new : Posted) (number : ℕ) (posted : Posted) (test : Bool) → HasPosted box number posted → HasPosted (cond test (record box { messages = box.messages ++ new ∷ [] }) box) number posted
grown_stays box new number posted true has = record { begun = has.begun; stands = get_append box.messages (new ∷ []) (number - box.first) posted has.stands }
grown_stays box new number posted false has = has

pub sent_stays : (boxes : ℕ → Outbox) (sent : List Sent) (target number : ℕ) (posted : Posted) → HasPosted (boxes target) number posted → HasPosted (with_sent boxes sent target) number posted
sent_stays boxes [] target number posted has = has
sent_stays boxes (one ∷ more) target number posted has =
    sent_stays (with_posted boxes one.to one.posted) more target number posted (grown_stays (boxes target) one.posted number posted (one.to == target) has)

-- what is let go stands before it
let_go_by : (box : Outbox) (upto number : ℕ) (posted : Posted) (test : Bool) → leb upto box.first ≡ test → upto ≤ number → HasPosted box number posted
    → HasPosted (cond test box (record { first = upto; messages = drop (upto - box.first) box.messages })) number posted
let_go_by box upto number posted true is low has = has
let_go_by box upto number posted false is low has =
    let above : box.first < upto = leb-false upto box.first is in
    let e : (upto - box.first) + (number - upto) ≡ number - box.first = omega arith in
    record { begun = low; stands = get_drop (upto - box.first) box.messages (number - upto) posted (subst (λ (k : ℕ). slice_get box.messages k ≡ Some posted) (sym e) has.stands) }

begun_stays : (box : Outbox) (upto number : ℕ) (posted : Posted) (test : Bool) → (test ≡ true → upto ≤ number) → HasPosted box number posted → HasPosted (cond test (begins_at upto box) box) number posted
begun_stays box upto number posted true low has = let_go_by box upto number posted (leb upto box.first) refl (low refl) has
begun_stays box upto number posted false low has = has

-- of a stream an item lets go only what stands below this number
abbrev LetsGoBelow : ℕ → ℕ → Item → Type 0
LetsGoBelow target number (trim reader upto) = reader.partition ≡ target → upto ≤ number
LetsGoBelow target number other = Unit {0}

let_go_stays : (boxes : ℕ → Outbox) (items : List Item) (target number : ℕ) (posted : Posted) → All (LetsGoBelow target number) items → HasPosted (boxes target) number posted → HasPosted (boxes_after boxes items target) number posted
let_go_stays boxes [] target number posted below has = has
let_go_stays boxes (trim reader upto ∷ items) target number posted below has =
    let_go_stays (with_first boxes reader.partition upto) items target number posted (All-tail (LetsGoBelow target number) (trim reader upto) items below)
    (begun_stays (boxes target) upto number posted (reader.partition == target) (λ same. All-head (LetsGoBelow target number) (trim reader upto) items below (eqb-true reader.partition target same)) has)
let_go_stays boxes (took message ∷ items) target number posted below has = let_go_stays boxes items target number posted (All-tail (LetsGoBelow target number) (took message) items below) has
let_go_stays boxes (got source at message ∷ items) target number posted below has = let_go_stays boxes items target number posted (All-tail (LetsGoBelow target number) (got source at message) items below) has
let_go_stays boxes (ran from to stamp ∷ items) target number posted below has = let_go_stays boxes items target number posted (All-tail (LetsGoBelow target number) (ran from to stamp) items below) has
let_go_stays boxes (ended id task outcome ∷ items) target number posted below has = let_go_stays boxes items target number posted (All-tail (LetsGoBelow target number) (ended id task outcome) items below) has
let_go_stays boxes (fired id task stamp ∷ items) target number posted below has = let_go_stays boxes items target number posted (All-tail (LetsGoBelow target number) (fired id task stamp) items below) has

-- ---- how far streams were taken in

next_grows : (nexts : ℕ → ℕ) (source next other : ℕ) (test : Bool) → (source == other) ≡ test → nexts source ≤ next → nexts other ≤ cond test next (nexts other)
next_grows nexts source next other true is low = subst (λ (k : ℕ). nexts k ≤ next) (eqb-true source other is) low
next_grows nexts source next other false is low = omega arith

pub nexts_grow : (nexts : ℕ → ℕ) (items : List Item) → ReadOn nexts items → (source : ℕ) → nexts source ≤ nexts_after nexts items source
nexts_grow nexts [] reads source = omega arith
nexts_grow nexts (got from number message ∷ items) reads source =
    let more = nexts_grow (with_next nexts from.partition (number + 1)) items reads.1 source in
    let one = next_grows nexts from.partition (number + 1) source (from.partition == source) refl (omega (arith, reads.0)) in
    omega (arith, one, more)
nexts_grow nexts (took message ∷ items) reads source = nexts_grow nexts items reads source
nexts_grow nexts (ran from to stamp ∷ items) reads source = nexts_grow nexts items reads source
nexts_grow nexts (ended id task outcome ∷ items) reads source = nexts_grow nexts items reads source
nexts_grow nexts (fired id task stamp ∷ items) reads source = nexts_grow nexts items reads source
nexts_grow nexts (trim reader number ∷ items) reads source = nexts_grow nexts items reads source

-- no message comes in again
abbrev ComesFrom : (ℕ → ℕ) → Item → Type 0
ComesFrom nexts (got source number message) = nexts source.partition ≤ number
ComesFrom nexts other = Unit {0}

come_from : (low nexts : ℕ → ℕ) (items : List Item) → ((source : ℕ) → low source ≤ nexts source) → ReadOn nexts items → All (ComesFrom low) items
come_from low nexts [] above reads = All-nil (ComesFrom low)
come_from low nexts (got from number message ∷ items) above reads =
    let here = above from.partition in
    All-cons (ComesFrom low) (got from number message) items (omega (arith, reads.0, here))
    (come_from low (with_next nexts from.partition (number + 1)) items
    (λ source. let one = next_grows nexts from.partition (number + 1) source (from.partition == source) refl (omega (arith, reads.0)) in let low_one = above source in omega (arith, one, low_one)) reads.1)
come_from low nexts (took message ∷ items) above reads = All-cons (ComesFrom low) (took message) items tt (come_from low nexts items above reads)
come_from low nexts (ran from to stamp ∷ items) above reads = All-cons (ComesFrom low) (ran from to stamp) items tt (come_from low nexts items above reads)
come_from low nexts (ended id task outcome ∷ items) above reads = All-cons (ComesFrom low) (ended id task outcome) items tt (come_from low nexts items above reads)
come_from low nexts (fired id task stamp ∷ items) above reads = All-cons (ComesFrom low) (fired id task stamp) items tt (come_from low nexts items above reads)
come_from low nexts (trim reader number ∷ items) above reads = All-cons (ComesFrom low) (trim reader number) items tt (come_from low nexts items above reads)

-- ---- names

pub known_stays : (row : Ledger) (entries : List Entry) (sent : List Sent) (e : Identity) → IsKnown row e → IsKnown (after_frame row entries sent) e
known_stays row entries sent e known = get_append row.incarnations (incarnations_in entries) e.position e.incarnation known

-- ---- the whole

-- a partition q settles a frame, and the others stay as they are
module _ (old new : ℕ → Ledger) (q : ℕ) (entries : List Entry) (sent : List Sent) (others : (x : ℕ) → x ≢ q → new x ≡ old x) (makes : new q ≡ after_frame (old q) entries sent)
    (reads : ReadOn (old q).nexts (items_in entries)) (met : AreMet old q entries) where
  lets_go : (p number : ℕ) → (old p).nexts q ≤ number → (items : List Item) → All (IsMet old q) items → All (LetsGoBelow p number) items
  lets_go p number low [] all = All-nil (LetsGoBelow p number)
  lets_go p number low (trim reader upto ∷ items) all =
      let here = All-head (IsMet old q) (trim reader upto) items all in
      All-cons (LetsGoBelow p number) (trim reader upto) items
      (λ is. let at : upto ≤ (old p).nexts q = subst (λ (k : ℕ). upto ≤ (old k).nexts q) is here.0 in omega (arith, at, low))
      (lets_go p number low items (All-tail (IsMet old q) (trim reader upto) items all))
  lets_go p number low (took message ∷ items) all = All-cons (LetsGoBelow p number) (took message) items tt (lets_go p number low items (All-tail (IsMet old q) (took message) items all))
  lets_go p number low (got source at message ∷ items) all = All-cons (LetsGoBelow p number) (got source at message) items tt (lets_go p number low items (All-tail (IsMet old q) (got source at message) items all))
  lets_go p number low (ran from to stamp ∷ items) all = All-cons (LetsGoBelow p number) (ran from to stamp) items tt (lets_go p number low items (All-tail (IsMet old q) (ran from to stamp) items all))
  lets_go p number low (ended id task outcome ∷ items) all = All-cons (LetsGoBelow p number) (ended id task outcome) items tt (lets_go p number low items (All-tail (IsMet old q) (ended id task outcome) items all))
  lets_go p number low (fired id task stamp ∷ items) all = All-cons (LetsGoBelow p number) (fired id task stamp) items tt (lets_go p number low items (All-tail (IsMet old q) (fired id task stamp) items all))

  -- what holds of each row however q's changed
  moved : (P : Ledger → Type 0) (x : ℕ) → P (old x) → (x ≡ q → P (after_frame (old q) entries sent)) → P (new x)
  moved P x stays changes = elim (cases_eq x q) [
    | inl is ↦ subst (λ (k : ℕ). P (new k)) (sym is) (subst P (sym makes) (changes is))
    | inr apart ↦ subst P (sym (others x apart)) stays
  ]

  item_stays : (p : ℕ) → (item : Item) → ComesFrom (old p).nexts item → IsMet old p item → IsMet new p item
  item_stays p (got source number message) low has =
      let posted : Posted = record { entry = source; message = message } in
      moved (λ row. HasPosted (row.boxes p) number posted) source.partition has
      (λ is.
      let there : HasPosted ((old q).boxes p) number posted = subst (λ (k : ℕ). HasPosted ((old k).boxes p) number posted) is has in
      let at : (old p).nexts q ≤ number = subst (λ (k : ℕ). (old p).nexts k ≤ number) is low in
      let_go_stays (with_sent (old q).boxes sent) (items_in entries) p number posted (lets_go p number at (items_in entries) met) (sent_stays (old q).boxes sent p number posted there))
  item_stays p (trim reader number) low has = (
    moved (λ row. number ≤ row.nexts p) reader.partition has.0
        (λ is. let grows = nexts_grow (old q).nexts (items_in entries) reads p in let at : number ≤ (old q).nexts p = subst (λ (k : ℕ). number ≤ (old k).nexts p) is has.0 in omega (arith, at, grows)),
    moved (λ row. IsKnown row reader) reader.partition has.1
        (λ is. known_stays (old q) entries sent reader (subst (λ (k : ℕ). IsKnown (old k) reader) is has.1)),
  )
  item_stays p (took message) low has = tt
  item_stays p (ran from to stamp) low has = tt
  item_stays p (ended id task outcome) low has = tt
  item_stays p (fired id task stamp) low has = tt

  items_stay : (p : ℕ) (items : List Item) → All (ComesFrom (old p).nexts) items → All (IsMet old p) items → All (IsMet new p) items
  items_stay p [] low all = All-nil (IsMet new p)
  items_stay p (item ∷ items) low all =
      All-cons (IsMet new p) item items
      (item_stays p item (All-head (ComesFrom (old p).nexts) item items low) (All-head (IsMet old p) item items all))
      (items_stay p items (All-tail (ComesFrom (old p).nexts) item items low) (All-tail (IsMet old p) item items all))

  -- another partition's frame that is met stays met
  pub met_stays : (p : ℕ) (mine : List Entry) → ReadOn (old p).nexts (items_in mine) → AreMet old p mine → AreMet new p mine
  met_stays p mine mine_reads all = items_stay p (items_in mine) (come_from (old p).nexts (old p).nexts (items_in mine) (λ source. omega arith) mine_reads) all
