-- What is left of streams once items let go of messages.
use Rattle.std.proofs.Common.{◌≡◌, ◌<◌, ◌≤◌, ◌==◌, ℕ, ◌+◌, ◌-◌, Bool, true, false, cond, List, [], ◌∷◌, ◌++◌, length, map, drop, refl, ap, subst, ◌∙◌, arith}
use Rattle.std.proofs.Math.Dec.{leb}
use Rattle.std.proofs.lemmas.Bool.{eqb-true, leb-false}
use Rattle.std.proofs.lemmas.List.{drop-drop, drop-map}
use Rattle.cell_frames.specs.LetGo.{LetGoBefore}
use Rattle.cell_frames.proofs.Joined.{joined}
use Rattle.cell_packets.specs.Packets.{sent_to, sent_from, end_of}
use Rattle.dura_value.specs.Items.{Item, Posted, took, got, ran, ended, fired, trim}
use Rattle.log_items.specs.Streams.{Outbox, with_first, boxes_after, begins_at}

-- of a stream the first messages were let go, and none from this number on
pub record Dropped (limit : ℕ) (a b : Outbox) : Type 0 where
  pub many : ℕ
  pub first : b.first ≡ a.first + many
  pub messages : b.messages ≡ drop many a.messages
  pub low : b.first ≤ limit

same_box : (limit : ℕ) (a : Outbox) → a.first ≤ limit → Dropped limit a a
same_box limit a low = record { many = 0; first = omega arith; messages = refl; low = low }

dropped_then : (limit : ℕ) (a b c : Outbox) → Dropped limit a b → Dropped limit b c → Dropped limit a c
dropped_then limit a b c one two = record {
  many = one.many + two.many;
  first = let first = one.first in let then = two.first in omega (arith, first, then);
  messages = two.messages ∙ ap (drop two.many) one.messages ∙ drop-drop two.many one.many a.messages;
  low = two.low;
}

begun_later : (limit number : ℕ) (a : Outbox) → a.first ≤ limit → number ≤ limit → Dropped limit a (begins_at number a)
begun_later limit number a low before = by (leb number a.first) refl
  where
    by : (test : Bool) → leb number a.first ≡ test → Dropped limit a (cond test a (record { first = number; messages = drop (number - a.first) a.messages }))
    by true is = same_box limit a low
    by false is = let past : a.first < number = leb-false number a.first is in record { many = number - a.first; first = omega (arith, past); messages = refl; low = before }

pub boxes_dropped : (ends : ℕ → ℕ) (target : ℕ) (items : List Item) (boxes : ℕ → Outbox) → (boxes target).first ≤ ends target → LetGoBefore ends items → Dropped (ends target) (boxes target) (boxes_after boxes items target)
boxes_dropped ends target [] boxes low before = same_box (ends target) (boxes target) low
boxes_dropped ends target (trim reader number ∷ items) boxes low before =
    let one = by (reader.partition == target) refl in
    dropped_then (ends target) (boxes target) (with_first boxes reader.partition number target) (boxes_after (with_first boxes reader.partition number) items target) one
    (boxes_dropped ends target items (with_first boxes reader.partition number) one.low before.1)
  where
    by : (test : Bool) → (reader.partition == target) ≡ test → Dropped (ends target) (boxes target) (cond test (begins_at number (boxes target)) (boxes target))
    by true same = begun_later (ends target) number (boxes target) low (subst (λ (n : ℕ). number ≤ ends n) (eqb-true reader.partition target same) before.0)
    by false apart = same_box (ends target) (boxes target) low
boxes_dropped ends target (took message ∷ items) boxes low before = boxes_dropped ends target items boxes low before
boxes_dropped ends target (got source number message ∷ items) boxes low before = boxes_dropped ends target items boxes low before
boxes_dropped ends target (ran from to stamp ∷ items) boxes low before = boxes_dropped ends target items boxes low before
boxes_dropped ends target (ended id task outcome ∷ items) boxes low before = boxes_dropped ends target items boxes low before
boxes_dropped ends target (fired id task stamp ∷ items) boxes low before = boxes_dropped ends target items boxes low before

drop_front : (a b : List Posted) → drop (length a) (a ++ b) ≡ b
drop_front [] b = refl
drop_front (x ∷ a) b = drop_front a b

-- what lies beyond where a stream ended is what joined it
pub sent_beyond : (target : ℕ) (box : Outbox) (posts : List Posted) (after : Outbox) → Dropped (end_of box) (joined box posts) after → sent_from target (end_of box) after ≡ map (sent_to target) posts
sent_beyond target box posts after dropped =
    let first = dropped.first in
    let low = dropped.low in
    let number : dropped.many + (end_of box - after.first) ≡ length box.messages = omega (arith, first, low) in
    drop-map (sent_to target) (end_of box - after.first) after.messages
    ∙ ap (map (sent_to target)) (ap (drop (end_of box - after.first)) dropped.messages ∙ drop-drop (end_of box - after.first) dropped.many (box.messages ++ posts) ∙ ap (λ (n : ℕ). drop n (box.messages ++ posts)) number ∙ drop_front box.messages posts)
