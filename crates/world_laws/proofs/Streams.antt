-- What a stream has under a number stays while it isn't let go, and came from who sent it.
use Rattle.std.proofs.Common.{◌≡◌, ◌⊎◌, inl, inr, ◌<◌, ◌≤◌, ℕ, zero, suc, ◌+◌, ◌-◌, ◌==◌, Bool, true, false, cond, List, [], ◌∷◌, ◌++◌, length, drop, Some, refl, sym, subst, arith}
use Rattle.std.specs.List.{Contains, slice_get}
use Rattle.std.proofs.Math.Dec.{leb}
use Rattle.std.proofs.lemmas.Bool.{leb-false}
use Rattle.std.proofs.lemmas.List.Elements.{Contains-append_right}
use Rattle.std.proofs.lemmas.Option.{slice_get_within}
use Rattle.commit_gate.proofs.Stay.{sent_stays, get_drop}
use Rattle.commit_gate.specs.Met.{HasPosted}
use Rattle.dura_value.specs.Items.{Item, Posted, took, got, ran, ended, fired, trim}
use Rattle.log_items.specs.Streams.{Outbox, with_posted, begins_at, with_first, Sent, with_sent, boxes_after}

-- ---- what is let go

-- where a stream begins it doesn't begin earlier
begun_by : (box : Outbox) (upto : ℕ) (test : Bool) → leb upto box.first ≡ test → box.first ≤ (cond test box (record { first = upto; messages = drop (upto - box.first) box.messages })).first
begun_by box upto true is = omega arith
begun_by box upto false is = let above : box.first < upto = leb-false upto box.first is in omega arith

begun_where : (box : Outbox) (upto : ℕ) (test : Bool) → box.first ≤ (cond test (begins_at upto box) box).first
begun_where box upto true = begun_by box upto (leb upto box.first) refl
begun_where box upto false = omega arith

firsts_rise : (boxes : ℕ → Outbox) (items : List Item) (target : ℕ) → (boxes target).first ≤ (boxes_after boxes items target).first
firsts_rise boxes [] target = omega arith
firsts_rise boxes (trim reader upto ∷ items) target =
    let one = begun_where (boxes target) upto (reader.partition == target) in
    let more = firsts_rise (with_first boxes reader.partition upto) items target in
    omega (arith, one, more)
firsts_rise boxes (took message ∷ items) target = firsts_rise boxes items target
firsts_rise boxes (got source at message ∷ items) target = firsts_rise boxes items target
firsts_rise boxes (ran from to stamp ∷ items) target = firsts_rise boxes items target
firsts_rise boxes (ended id task outcome ∷ items) target = firsts_rise boxes items target
firsts_rise boxes (fired id task stamp ∷ items) target = firsts_rise boxes items target

posted_first : (boxes : ℕ → Outbox) (to target : ℕ) (posted : Posted) (test : Bool) → (boxes target).first ≤ (cond test (record (boxes target) { messages = (boxes target).messages ++ posted ∷ [] }) (boxes target)).first
posted_first boxes to target posted true = omega arith
posted_first boxes to target posted false = omega arith

sent_first : (boxes : ℕ → Outbox) (sent : List Sent) (target : ℕ) → (boxes target).first ≤ (with_sent boxes sent target).first
sent_first boxes [] target = omega arith
sent_first boxes (one ∷ more) target =
    let here = posted_first boxes one.to target one.posted (one.to == target) in
    let later = sent_first (with_posted boxes one.to one.posted) more target in
    omega (arith, here, later)

pub first_rises : (boxes : ℕ → Outbox) (sent : List Sent) (items : List Item) (target : ℕ) → (boxes target).first ≤ (boxes_after (with_sent boxes sent) items target).first
first_rises boxes sent items target = let one = sent_first boxes sent target in let more = firsts_rise (with_sent boxes sent) items target in omega (arith, one, more)

-- what lies from there on stays
let_go_by : (box : Outbox) (upto number : ℕ) (posted : Posted) (test : Bool) → leb upto box.first ≡ test → (cond test box (record { first = upto; messages = drop (upto - box.first) box.messages })).first ≤ number → HasPosted box number posted
    → HasPosted (cond test box (record { first = upto; messages = drop (upto - box.first) box.messages })) number posted
let_go_by box upto number posted true is low has = has
let_go_by box upto number posted false is low has =
    let above : box.first < upto = leb-false upto box.first is in
    let e : (upto - box.first) + (number - upto) ≡ number - box.first = omega (arith, low, above) in
    record { begun = low; stands = get_drop (upto - box.first) box.messages (number - upto) posted (subst (λ (k : ℕ). slice_get box.messages k ≡ Some posted) (sym e) has.stands) }

let_go_where : (box : Outbox) (upto number : ℕ) (posted : Posted) (test : Bool) → (cond test (begins_at upto box) box).first ≤ number → HasPosted box number posted → HasPosted (cond test (begins_at upto box) box) number posted
let_go_where box upto number posted true low has = let_go_by box upto number posted (leb upto box.first) refl low has
let_go_where box upto number posted false low has = has

left_stays : (boxes : ℕ → Outbox) (items : List Item) (target number : ℕ) (posted : Posted) → (boxes_after boxes items target).first ≤ number → HasPosted (boxes target) number posted → HasPosted (boxes_after boxes items target) number posted
left_stays boxes [] target number posted low has = has
left_stays boxes (trim reader upto ∷ items) target number posted low has =
    let rise = firsts_rise (with_first boxes reader.partition upto) items target in
    left_stays (with_first boxes reader.partition upto) items target number posted low (let_go_where (boxes target) upto number posted (reader.partition == target) (omega (arith, rise, low)) has)
left_stays boxes (took message ∷ items) target number posted low has = left_stays boxes items target number posted low has
left_stays boxes (got source at message ∷ items) target number posted low has = left_stays boxes items target number posted low has
left_stays boxes (ran from to stamp ∷ items) target number posted low has = left_stays boxes items target number posted low has
left_stays boxes (ended id task outcome ∷ items) target number posted low has = left_stays boxes items target number posted low has
left_stays boxes (fired id task stamp ∷ items) target number posted low has = left_stays boxes items target number posted low has

-- what entries send and let go leaves what lies from where the stream begins then
pub posted_stays : (boxes : ℕ → Outbox) (sent : List Sent) (items : List Item) (target number : ℕ) (posted : Posted) → (boxes_after (with_sent boxes sent) items target).first ≤ number → HasPosted (boxes target) number posted
    → HasPosted (boxes_after (with_sent boxes sent) items target) number posted
posted_stays boxes sent items target number posted low has = left_stays (with_sent boxes sent) items target number posted low (sent_stays boxes sent target number posted has)

-- ---- and back

pub drop_get : {X : Type 0} (n : ℕ) (xs : List X) (i : ℕ) (x : X) → slice_get (drop n xs) i ≡ Some x → slice_get xs (n + i) ≡ Some x
drop_get zero xs i x is = let e : i ≡ 0 + i = omega arith in subst (λ (k : ℕ). slice_get xs k ≡ Some x) e is
drop_get (suc n) [] i x is = absurd (cc is)
drop_get (suc n) (y ∷ xs) i x is = let e : suc (n + i) ≡ suc n + i = omega arith in subst (λ (k : ℕ). slice_get (y ∷ xs) k ≡ Some x) e (drop_get n xs i x is)

append_get : {X : Type 0} (xs : List X) (y : X) (i : ℕ) (x : X) → slice_get (xs ++ y ∷ []) i ≡ Some x → (slice_get xs i ≡ Some x) ⊎ (y ≡ x)
append_get [] y zero x is = inr (cc is)
append_get [] y (suc i) x is = absurd (cc is)
append_get (z ∷ xs) y zero x is = inl is
append_get (z ∷ xs) y (suc i) x is = append_get xs y i x is

begun_back : (box : Outbox) (upto number : ℕ) (posted : Posted) (test : Bool) → leb upto box.first ≡ test → HasPosted (cond test box (record { first = upto; messages = drop (upto - box.first) box.messages })) number posted → HasPosted box number posted
begun_back box upto number posted true is has = has
begun_back box upto number posted false is has =
    let above : box.first < upto = leb-false upto box.first is in
    let low = has.begun in
    let e : (upto - box.first) + (number - upto) ≡ number - box.first = omega (arith, low, above) in
    record { begun = omega (arith, low, above); stands = subst (λ (k : ℕ). slice_get box.messages k ≡ Some posted) e (drop_get (upto - box.first) box.messages (number - upto) posted has.stands) }

let_go_back : (box : Outbox) (upto number : ℕ) (posted : Posted) (test : Bool) → HasPosted (cond test (begins_at upto box) box) number posted → HasPosted box number posted
let_go_back box upto number posted true has = begun_back box upto number posted (leb upto box.first) refl has
let_go_back box upto number posted false has = has

left_back : (boxes : ℕ → Outbox) (items : List Item) (target number : ℕ) (posted : Posted) → HasPosted (boxes_after boxes items target) number posted → HasPosted (boxes target) number posted
left_back boxes [] target number posted has = has
left_back boxes (trim reader upto ∷ items) target number posted has = let_go_back (boxes target) upto number posted (reader.partition == target) (left_back (with_first boxes reader.partition upto) items target number posted has)
left_back boxes (took message ∷ items) target number posted has = left_back boxes items target number posted has
left_back boxes (got source at message ∷ items) target number posted has = left_back boxes items target number posted has
left_back boxes (ran from to stamp ∷ items) target number posted has = left_back boxes items target number posted has
left_back boxes (ended id task outcome ∷ items) target number posted has = left_back boxes items target number posted has
left_back boxes (fired id task stamp ∷ items) target number posted has = left_back boxes items target number posted has

-- one of these messages is it
abbrev IsAmong : List Sent → Posted → Type 0
IsAmong sent posted = (one : Sent) × Contains sent one × (one.posted ≡ posted)

grown_or : (box : Outbox) (one : Sent) (number : ℕ) (posted : Posted) (test : Bool) → HasPosted (cond test (record box { messages = box.messages ++ one.posted ∷ [] }) box) number posted → HasPosted box number posted ⊎ (one.posted ≡ posted)
grown_or box one number posted true has = elim (append_get box.messages one.posted (number - box.first) posted has.stands) [ inl there ↦ inl (record { begun = has.begun; stands = there }) | inr last ↦ inr last ]
grown_or box one number posted false has = inl has

sent_or : (boxes : ℕ → Outbox) (sent : List Sent) (target number : ℕ) (posted : Posted) → HasPosted (with_sent boxes sent target) number posted → HasPosted (boxes target) number posted ⊎ IsAmong sent posted
sent_or boxes [] target number posted has = inl has
sent_or boxes (one ∷ more) target number posted has = elim (sent_or (with_posted boxes one.to one.posted) more target number posted has) [
  | inl before ↦ elim (grown_or (boxes target) one number posted (one.to == target) before) [ inl there ↦ inl there | inr this ↦ inr (one, (0, omega arith, refl), this) ]
  | inr later ↦ inr (later.0, Contains-append_right (one ∷ []) more later.0 later.1, later.2)
]

-- what a stream has beyond where it ended is one of the messages that joined it
pub posted_among : (boxes : ℕ → Outbox) (sent : List Sent) (items : List Item) (target number : ℕ) (posted : Posted) → HasPosted (boxes_after (with_sent boxes sent) items target) number posted → (boxes target).first + length (boxes target).messages ≤ number → IsAmong sent posted
posted_among boxes sent items target number posted has past = elim (sent_or boxes sent target number posted (left_back (with_sent boxes sent) items target number posted has)) [
  | inl before ↦ let inside = slice_get_within (boxes target).messages (number - (boxes target).first) posted before.stands in let begun = before.begun in absurd (omega (arith, inside, begun, past))
  | inr one ↦ one
]

-- what lies before where it ended it had
pub posted_before : (boxes : ℕ → Outbox) (sent : List Sent) (items : List Item) (target number : ℕ) (posted : Posted) → HasPosted (boxes_after (with_sent boxes sent) items target) number posted → HasPosted (boxes target) number posted ⊎ IsAmong sent posted
posted_before boxes sent items target number posted has = sent_or boxes sent target number posted (left_back (with_sent boxes sent) items target number posted has)
