-- What stands at a gate.
use Rattle.std.proofs.Common.{◌≡◌, ◌≢◌, ◌⊎◌, inl, inr, ℕ, ◌+◌, ◌<◌, ◌≤◌, ◌^◌, Bool, true, false, cond, ltb, eqb, List, [], ◌∷◌, ◌++◌, length, take, drop, Result, Ok, Err, refl, sym, ap, ◌∙◌, append_assoc, arith}
use Rattle.std.specs.Int.{w32, to_be_bytes}
use Rattle.std.proofs.lemmas.Bool.{cases_Bool, eqb-false, le-ltb, and_left, and_right}
use Rattle.std.proofs.lemmas.List.{take-append-drop, take_at, drop_at, length-append, length-take}
use Rattle.site_model.specs.History.{Change, reads, IsKept}
use Rattle.commit_log.specs.declared.header.Header.{Header}
use Rattle.commit_log.specs.Segment.{frame_at, framed, frame_bytes, segment_bytes, open_gate}
use Rattle.commit_log.specs.States.{IsSegment, IsResting}
use Rattle.commit_log.specs.Frames.{closed, frame, wrong, found_from, found_at, HasRead}
use Rattle.commit_log.specs.Fronts.{BeginsFrame}
use Rattle.commit_log.proofs.Written.{is_whole, frame_by_test, fits_whole, segment-push}

-- ---- a closed gate

-- a byte that isn't open stands at a gate that is found closed
pub closed_gate : (gate : ℕ) (bytes : List ℕ) → found_at gate bytes ≡ closed → (byte : ℕ) × (rest : List ℕ) × (bytes ≡ byte ∷ rest) × (byte ≢ open_gate)
closed_gate gate [] is = absurd (cc is)
closed_gate gate (byte ∷ bytes) is = elim (cases_Bool (eqb byte open_gate)) [
  | inl is_open ↦ absurd (not_closed (frame_at (gate + 1) bytes) (sym (ap (λ b. cond b (found_from (frame_at (gate + 1) bytes)) closed) is_open) ∙ is))
  | inr shut ↦ (byte, bytes, refl, eqb-false _ _ shut)
]
  where
    not_closed : (found : Result (List ℕ × List ℕ) ℕ) → found_from found ≡ closed → ⊥
    not_closed (Ok x) is = cc is
    not_closed (Err offset) is = cc is

module _ (content : List ℕ) (h : Header) (payloads : List (List ℕ)) (gate : ℕ) (has_read : HasRead content h payloads gate) where
  front_long : gate ≡ length (segment_bytes h payloads)
  front_long = omega (arith, has_read.inside, length-take gate content, ap length has_read.front)

  -- before a closed gate the frames are a segment
  pub closed_segment : gate + 1 < 2 ^ 31 → found_at gate (drop gate content) ≡ closed → IsSegment content h payloads gate
  closed_segment below is =
      let found = closed_gate gate (drop gate content) is in
      record {
        ends = record { place = front_long; below = below; fits = has_read.fits };
        byte = found.0;
        rest = found.1;
        split = sym (take-append-drop gate content) ∙ ap (λ (l : List ℕ). l ++ drop gate content) has_read.front ∙ ap (λ (l : List ℕ). segment_bytes h payloads ++ l) found.2;
        closed = found.3;
      }

  -- with a frame behind the gate one payload more is read
  pub frame_read : (payload rest : List ℕ) → drop gate content ≡ open_gate ∷ (framed payload ++ rest) → HasRead content h (payloads ++ payload ∷ []) (gate + 5 + length payload)
  frame_read payload rest split = record {
    fits = has_read.fits;
    front =
        ap (take (gate + 5 + length payload)) whole
        ∙ take_at (segment_bytes h (payloads ++ payload ∷ [])) rest (gate + 5 + length payload) long;
    inside = omega (arith, ap length whole, length-append (segment_bytes h (payloads ++ payload ∷ [])) rest, long);
  }
    where
      whole : content ≡ segment_bytes h (payloads ++ payload ∷ []) ++ rest
      whole =
          sym (take-append-drop gate content) ∙ ap (λ (l : List ℕ). l ++ drop gate content) has_read.front ∙ ap (λ (l : List ℕ). segment_bytes h payloads ++ l) split
          ∙ sym (append_assoc (segment_bytes h payloads) (frame_bytes payload) rest) ∙ ap (λ (l : List ℕ). l ++ rest) (sym (segment-push h payloads payload))

      long : length (segment_bytes h (payloads ++ payload ∷ [])) ≡ gate + 5 + length payload
      long = omega (arith, ap length (segment-push h payloads payload), length-append (segment_bytes h payloads) (frame_bytes payload), length-append (to_be_bytes w32 (length payload)) payload, front_long)

-- such a log rests
pub segment_rests : (changes : List Change) (h : Header) (payloads : List (List ℕ)) (gate : ℕ) → IsSegment (reads changes) h payloads gate → IsKept changes → IsResting changes h payloads gate
segment_rests changes h payloads gate found kept = record {
  ends = found.ends;
  byte = found.byte;
  rest = found.rest;
  content = found.split;
  closed = found.closed;
  kept = kept;
}

-- ---- an open gate

-- the frame by the test of its length
found_by_test : (gate size : ℕ) (bytes : List ℕ) (begins : BeginsFrame bytes size) (b : Bool) → is_whole (gate + 1) size begins.rest ≡ b
    → found_at gate bytes ≡ found_from (cond b (Ok (take size begins.rest, drop size begins.rest)) (Err (gate + 1)))
found_by_test gate size bytes begins b test = ap (found_at gate) begins.split ∙ ap found_from (frame_by_test (gate + 1) size begins.rest b begins.fits test)

module _ (gate size : ℕ) (bytes : List ℕ) (begins : BeginsFrame bytes size) where
  bytes_long : length bytes ≡ 5 + length begins.rest
  bytes_long = omega (arith, ap length begins.split, length-append (to_be_bytes w32 size) begins.rest)

  behind_length : drop 5 bytes ≡ begins.rest
  behind_length = ap (drop 5) begins.split ∙ drop_at (open_gate ∷ to_be_bytes w32 size) begins.rest 5 refl

  -- the next gate isn't in the file, or ends a file that is too long
  pub no_frame : (length bytes ≤ 5 + size) ⊎ (2 ^ 31 ≤ gate + 6 + size) → found_at gate bytes ≡ wrong (gate + 1)
  no_frame why = found_by_test gate size bytes begins false (elim why [
    | inl short ↦ and_left (ltb size (length begins.rest)) _ (le-ltb size (length begins.rest) (omega (arith, bytes_long)))
    | inr past ↦ and_right _ (ltb (gate + 1 + 5 + size) (2 ^ 31)) (le-ltb (gate + 1 + 5 + size) (2 ^ 31) (omega arith))
  ])

  -- and else the frame stands there
  pub stands : (payload : List ℕ) → 5 + size < length bytes → gate + 6 + size < 2 ^ 31 → payload ≡ take size (drop 5 bytes) → found_at gate bytes ≡ frame payload
  stands payload inside below is =
      found_by_test gate size bytes begins true (fits_whole (gate + 1) size begins.rest (omega (arith, bytes_long)) (omega arith))
      ∙ ap frame (sym (is ∙ ap (take size) behind_length))

  pub frame_split : (payload : List ℕ) → length payload ≡ size → payload ≡ take size (drop 5 bytes) → bytes ≡ open_gate ∷ (framed payload ++ drop size begins.rest)
  frame_split payload long is =
      let spelled : payload ++ drop size begins.rest ≡ begins.rest = ap (λ (l : List ℕ). l ++ drop size begins.rest) (is ∙ ap (take size) behind_length) ∙ take-append-drop size begins.rest in
      begins.split ∙ ap (λ (l : List ℕ). open_gate ∷ l)
      (ap (λ (l : List ℕ). to_be_bytes w32 size ++ l) (sym spelled) ∙ sym (append_assoc (to_be_bytes w32 size) payload (drop size begins.rest))
      ∙ ap (λ (n : ℕ). (to_be_bytes w32 n ++ payload) ++ drop size begins.rest) (sym long))
