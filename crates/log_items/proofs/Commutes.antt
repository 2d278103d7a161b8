-- Messages join streams before or after others are let go: so frames may be taken entry by entry.
use Rattle.std.proofs.Common.{◌≡◌, ℕ, zero, suc, ◌+◌, ◌-◌, ◌==◌, ◌<◌, ◌≤◌, Bool, true, false, cond, List, [], ◌∷◌, ◌++◌, length, drop, refl, sym, ◌∙◌, ap, subst, arith, length-append}
use Rattle.std.proofs.Math.Dec.{leb}
use Rattle.std.proofs.lemmas.Bool.{leb-false, eqb-true}
use Rattle.dura_value.specs.Items.{Item, took, got, ran, ended, fired, trim}
use Rattle.dura_value.specs.Items.{Posted}
use Rattle.log_items.specs.Streams.{Outbox, with_posted, begins_at, with_first, LetGoInside, Sent, with_sent, boxes_after}

drop_append : {X : Type 0} (n : ℕ) (xs ys : List X) → n ≤ length xs → drop n (xs ++ ys) ≡ drop n xs ++ ys
drop_append zero xs ys low = refl
drop_append (suc n) [] ys low = absurd (omega (arith, low))
drop_append (suc n) (x ∷ xs) ys low = drop_append n xs ys (omega (arith, low))

abbrev pub end : Outbox → ℕ
end box = box.first + length box.messages

abbrev grown : Outbox → Posted → Outbox
grown box posted = record box { messages = box.messages ++ posted ∷ [] }

-- a stream that is let go up to no more than its end, and one message more
begun_grown : (box : Outbox) (number : ℕ) (posted : Posted) (test : Bool) → leb number box.first ≡ test → number ≤ end box
    → cond test (grown box posted) (record { first = number; messages = drop (number - box.first) (box.messages ++ posted ∷ []) }) ≡ grown (cond test box (record { first = number; messages = drop (number - box.first) box.messages })) posted
begun_grown box number posted true is low = refl
begun_grown box number posted false is low =
    let above : box.first < number = leb-false number box.first is in
    let inside : number - box.first ≤ length box.messages = omega (arith, low) in
    ap (λ (l : List Posted). record { first = number; messages = l }) (drop_append (number - box.first) box.messages (posted ∷ []) inside)

one_commutes : (box : Outbox) (number : ℕ) (posted : Posted) (cut more : Bool) → (cut ≡ true → number ≤ end box) → cond cut (begins_at number (cond more (grown box posted) box)) (cond more (grown box posted) box) ≡ cond more (grown (cond cut (begins_at number box) box) posted) (cond cut (begins_at number box) box)
one_commutes box number posted true true low = begun_grown box number posted (leb number box.first) refl (low refl)
one_commutes box number posted true false low = refl
one_commutes box number posted false more low = refl

-- a message that joins before or after
pub posted_commutes : (boxes : ℕ → Outbox) (to number target : ℕ) (posted : Posted) → number ≤ end (boxes target) → with_first (with_posted boxes to posted) target number ≡ with_posted (with_first boxes target number) to posted
posted_commutes boxes to number target posted low = λ t other. one_commutes (boxes other) number posted (target == other) (to == other) (λ is. subst (λ (k : ℕ). number ≤ end (boxes k)) (eqb-true target other is) low) t

end_grows : (boxes : ℕ → Outbox) (to target : ℕ) (posted : Posted) (test : Bool) → end (boxes target) ≤ end (cond test (grown (boxes target) posted) (boxes target))
end_grows boxes to target posted true = omega (arith, length-append (boxes target).messages (posted ∷ []))
end_grows boxes to target posted false = omega arith

pub ends_grow : (boxes : ℕ → Outbox) (sent : List Sent) (target : ℕ) → end (boxes target) ≤ end (with_sent boxes sent target)
ends_grow boxes [] target = omega arith
ends_grow boxes (one ∷ more) target =
    let first = end_grows boxes one.to target one.posted (one.to == target) in
    let others = ends_grow (with_posted boxes one.to one.posted) more target in
    omega (arith, first, others)

pub sent_commutes : (boxes : ℕ → Outbox) (sent : List Sent) (target number : ℕ) → number ≤ end (boxes target) → with_first (with_sent boxes sent) target number ≡ with_sent (with_first boxes target number) sent
sent_commutes boxes [] target number low = refl
sent_commutes boxes (one ∷ more) target number low =
    let grows = end_grows boxes one.to target one.posted (one.to == target) in
    sent_commutes (with_posted boxes one.to one.posted) more target number (omega (arith, low, grows)) ∙ ap (λ (b : ℕ → Outbox). with_sent b more) (posted_commutes boxes one.to number target one.posted low)

-- messages that join one behind the other
pub sent_both : (boxes : ℕ → Outbox) (one other : List Sent) → with_sent boxes (one ++ other) ≡ with_sent (with_sent boxes one) other
sent_both boxes [] other = refl
sent_both boxes (first ∷ more) other = sent_both (with_posted boxes first.to first.posted) more other

-- what an entry sends joins before or after what it lets go: so entries go one by one, or all that a frame sends first
pub items_commute : (boxes : ℕ → Outbox) (items : List Item) (sent : List Sent) → LetGoInside boxes items → with_sent (boxes_after boxes items) sent ≡ boxes_after (with_sent boxes sent) items
items_commute boxes [] sent inside = refl
items_commute boxes (trim reader number ∷ items) sent inside =
    items_commute (with_first boxes reader.partition number) items sent inside.1 ∙ ap (λ (b : ℕ → Outbox). boxes_after b items) (sym (sent_commutes boxes sent reader.partition number inside.0))
items_commute boxes (took message ∷ items) sent inside = items_commute boxes items sent inside
items_commute boxes (got source number message ∷ items) sent inside = items_commute boxes items sent inside
items_commute boxes (ran from to stamp ∷ items) sent inside = items_commute boxes items sent inside
items_commute boxes (ended id task outcome ∷ items) sent inside = items_commute boxes items sent inside
items_commute boxes (fired id task stamp ∷ items) sent inside = items_commute boxes items sent inside
