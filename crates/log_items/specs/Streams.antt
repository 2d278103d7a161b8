-- The streams from a partition to others.
use Rattle.std.specs.Prelude.{◌≤◌, ℕ, ◌+◌, ◌-◌, ◌==◌, List, [], ◌∷◌, ◌++◌, length, drop, nat_le, if◌then◌else◌}
use Rattle.dura_value.specs.Items.{Item, Posted, trim}

-- what is left of the stream to another partition: the number of its first message, and the messages
pub record Outbox : Type 0 where
  pub first : ℕ
  pub messages : List Posted

-- a message joins the stream to this partition
abbrev pub with_posted : (ℕ → Outbox) → ℕ → Posted → ℕ → Outbox
with_posted boxes target posted other =
    if target == other then record (boxes other) { messages = (boxes other).messages ++ posted ∷ [] } else boxes other

-- the stream to another partition begins at a later number; one that it has begun at stays
abbrev pub begins_at : ℕ → Outbox → Outbox
begins_at number box = if nat_le number box.first then box else record { first = number; messages = drop (number - box.first) box.messages }

abbrev pub with_first : (ℕ → Outbox) → (target number : ℕ) → ℕ → Outbox
with_first boxes target number other = if target == other then begins_at number (boxes other) else boxes other

-- ---- what items make of them

-- a message, and the partition that it goes to
pub record Sent : Type 0 where
  pub to : ℕ
  pub posted : Posted

-- the messages join their streams
abbrev pub with_sent : (ℕ → Outbox) → List Sent → ℕ → Outbox
with_sent boxes [] = boxes
with_sent boxes (one ∷ more) = with_sent (with_posted boxes one.to one.posted) more

-- what is left of streams once these items let go of messages
abbrev pub boxes_after : (ℕ → Outbox) → List Item → ℕ → Outbox
boxes_after boxes [] = boxes
boxes_after boxes (trim reader number ∷ items) = boxes_after (with_first boxes reader.partition number) items
boxes_after boxes (other ∷ items) = boxes_after boxes items

-- what these items let go lies inside the streams
abbrev pub LetGoInside : (ℕ → Outbox) → List Item → Type 0
LetGoInside boxes [] = Unit {0}
LetGoInside boxes (trim reader number ∷ items) = (number ≤ (boxes reader.partition).first + length (boxes reader.partition).messages) × LetGoInside (with_first boxes reader.partition number) items
LetGoInside boxes (other ∷ items) = LetGoInside boxes items
