-- What stands on the disk in each state of a log.
use Rattle.std.specs.Prelude.{◌≡◌, ◌≢◌, ◌⊎◌, Bool, true, false, ℕ, ◌+◌, ◌<◌, ◌^◌, List, [], ◌∷◌, ◌++◌, length, take}
use Rattle.site_model.specs.History.{Change, reads, Leaves, IsKept}
use Rattle.commit_log.specs.declared.header.Header.{Header}
use Rattle.commit_log.specs.Segment.{segment, fresh, reading_of, header_bytes, segment_bytes, framed, open_gate, first_gate, FitsHeader}

-- these frames end before the gate at this offset, and a file that ends with it is short enough
pub record EndsAt (h : Header) (payloads : List (List ℕ)) (gate : ℕ) : Type 0 where
  pub place : gate ≡ length (segment_bytes h payloads)
  pub below : gate + 1 < 2 ^ 31
  pub fits : FitsHeader h

-- bytes that are these frames, a gate that isn't open, and whatever stands behind it
pub record IsSegment (bytes : List ℕ) (h : Header) (payloads : List (List ℕ)) (gate : ℕ) : Type 0 where
  pub ends : EndsAt h payloads gate
  pub byte : ℕ
  pub rest : List ℕ
  pub split : bytes ≡ segment_bytes h payloads ++ byte ∷ rest
  pub closed : byte ≢ open_gate

-- behind these frames stands a closed gate, all of it on the disk
pub record IsResting (changes : List Change) (h : Header) (payloads : List (List ℕ)) (gate : ℕ) : Type 0 where
  pub ends : EndsAt h payloads gate
  pub byte : ℕ
  pub rest : List ℕ
  pub content : reads changes ≡ segment_bytes h payloads ++ byte ∷ rest
  pub closed : byte ≢ open_gate
  pub kept : IsKept changes

-- some log rests there
abbrev pub Rests : List Change → ℕ → Type 0
Rests changes gate = (h : Header) × (payloads : List (List ℕ)) × IsResting changes h payloads gate

-- The frame stands behind the closed gate, with a closed gate behind it. Of what stands behind the first gate a crash
-- may leave anything.
pub record IsBodied (changes : List Change) (h : Header) (payloads : List (List ℕ)) (payload : List ℕ) (gate next : ℕ) : Type 0 where
  pub ends : EndsAt h payloads gate
  pub ends_after : EndsAt h (payloads ++ payload ∷ []) next
  pub byte : ℕ
  pub tail : List ℕ
  pub content : reads changes ≡ segment_bytes h payloads ++ byte ∷ framed payload ++ 0 ∷ tail
  pub closed : byte ≢ open_gate
  pub front : (image : List ℕ) → Leaves changes image → take (gate + 1) image ≡ segment_bytes h payloads ++ byte ∷ []

-- the same, all of it on the disk
pub record IsSynced (changes : List Change) (h : Header) (payloads : List (List ℕ)) (payload : List ℕ) (gate next : ℕ) : Type 0 where
  pub ends : EndsAt h payloads gate
  pub ends_after : EndsAt h (payloads ++ payload ∷ []) next
  pub byte : ℕ
  pub tail : List ℕ
  pub content : reads changes ≡ segment_bytes h payloads ++ byte ∷ framed payload ++ 0 ∷ tail
  pub closed : byte ≢ open_gate
  pub kept : IsKept changes

-- some frame stands there, safe behind a closed gate
abbrev pub IsSyncedThere : List Change → ℕ → ℕ → Type 0
IsSyncedThere changes gate next = (h : Header) × (payloads : List (List ℕ)) × (payload : List ℕ) × IsSynced changes h payloads payload gate next

-- The gate is written open and not synced: a crash may leave any byte there, and nothing else changed.
pub record IsGated (changes : List Change) (h : Header) (payloads : List (List ℕ)) (payload : List ℕ) (gate next : ℕ) : Type 0 where
  pub ends : EndsAt h payloads gate
  pub ends_after : EndsAt h (payloads ++ payload ∷ []) next
  pub tail : List ℕ
  pub content : reads changes ≡ segment_bytes h payloads ++ open_gate ∷ framed payload ++ 0 ∷ tail
  pub images : (image : List ℕ) → Leaves changes image → (byte : ℕ) × (image ≡ segment_bytes h payloads ++ byte ∷ framed payload ++ 0 ∷ tail)

-- the bytes of a file in which the gate may be open, and then the frame stands whole behind it
pub record IsBeforeOrAfter (h : Header) (payloads : List (List ℕ)) (payload bytes : List ℕ) : Type 0 where
  pub byte : ℕ
  pub rest : List ℕ
  pub split : bytes ≡ segment_bytes h payloads ++ byte ∷ rest
  pub whole : byte ≡ open_gate → (tail : List ℕ) × (rest ≡ framed payload ++ 0 ∷ tail)

-- What a failed call leaves before the gate was tried: the frames, a gate that isn't open and whatever stands behind it. The same front
-- is in each image that a crash may leave.
pub record IsBrokenBody (changes : List Change) (h : Header) (payloads : List (List ℕ)) (gate : ℕ) : Type 0 where
  pub ends : EndsAt h payloads gate
  pub byte : ℕ
  pub rest : List ℕ
  pub content : reads changes ≡ segment_bytes h payloads ++ byte ∷ rest
  pub closed : byte ≢ open_gate
  pub front : (image : List ℕ) → Leaves changes image → take (gate + 1) image ≡ segment_bytes h payloads ++ byte ∷ []

-- what a failed call leaves once the gate was tried: the frame is there or it isn't
pub record IsBrokenGate (changes : List Change) (h : Header) (payloads : List (List ℕ)) (payload : List ℕ) (gate next : ℕ) : Type 0 where
  pub ends : EndsAt h payloads gate
  pub ends_after : EndsAt h (payloads ++ payload ∷ []) next
  pub content : IsBeforeOrAfter h payloads payload (reads changes)
  pub images : (image : List ℕ) → Leaves changes image → IsBeforeOrAfter h payloads payload image

-- a crash image has these frames
abbrev pub HasFrames : Header → List (List ℕ) → ℕ → List ℕ → Type 0
HasFrames h payloads gate image = reading_of image ≡ segment h payloads gate

-- with the new frame or without it
abbrev pub HasFramesOrOneMore : Header → List (List ℕ) → List ℕ → ℕ → ℕ → List ℕ → Type 0
HasFramesOrOneMore h payloads payload gate next image = HasFrames h payloads gate image ⊎ HasFrames h (payloads ++ payload ∷ []) next image

-- while a file is formatted: it reads as before, or fresh, or as a segment with no frame
abbrev pub IsFormatting : List ℕ → Header → List ℕ → Type 0
IsFormatting content h image = (reading_of image ≡ reading_of content) ⊎ ((reading_of image ≡ fresh) ⊎ HasFrames h [] first_gate image)

-- ---- formatting

-- The first byte isn't open, and stands on the disk. So the file is fresh whatever follows it.
pub record IsClosed (changes : List Change) : Type 0 where
  pub byte : ℕ
  pub rest : List ℕ
  pub content : reads changes ≡ byte ∷ rest
  pub closed : byte ≢ open_gate
  pub kept : IsKept changes

-- the header and the first gate stand behind it, on the disk too
pub record IsHeaded (changes : List Change) (h : Header) : Type 0 where
  pub byte : ℕ
  pub rest : List ℕ
  pub content : reads changes ≡ byte ∷ (header_bytes h ++ 0 ∷ rest)
  pub fits : FitsHeader h
  pub closed : byte ≢ open_gate
  pub kept : IsKept changes

-- whether the first of at least two bytes isn't open
abbrev pub IsClosedContent : List ℕ → Bool → Type 0
IsClosedContent content true = (byte : ℕ) × (rest : List ℕ) × (content ≡ byte ∷ rest) × (byte ≢ open_gate) × (1 < length content)
IsClosedContent content false = (content ≡ []) ⊎ ((byte : ℕ) × (rest : List ℕ) × (content ≡ byte ∷ rest) × ((rest ≡ []) ⊎ (byte ≡ open_gate)))

-- while the first byte is closed
abbrev pub IsClosing : List ℕ → List ℕ → Type 0
IsClosing content image = (reading_of image ≡ reading_of content) ⊎ (reading_of image ≡ fresh)

-- while it is opened
abbrev pub IsOpening : Header → List ℕ → Type 0
IsOpening h image = (reading_of image ≡ fresh) ⊎ HasFrames h [] first_gate image
