-- Reading a log frame by frame comes to what reading it whole does.
use Rattle.std.proofs.Common.{◌≡◌, ℕ, zero, suc, ◌+◌, ◌<◌, ◌^◌, cond, eqb, inl, inr, List, [], ◌∷◌, ◌++◌, length, drop, Result, Ok, Err, refl, sym, ap, ◌∙◌, append_assoc, arith}
use Rattle.std.specs.List.{flat_map}
use Rattle.std.proofs.lemmas.Bool.{cases_Bool}
use Rattle.std.proofs.lemmas.List.{take-append-drop, length-append, length-take, length-drop}
use Rattle.std.proofs.lemmas.List.Concat.{flat_map-cons}
use Rattle.std.specs.Int.{w32, to_be_bytes}
use Rattle.commit_log.specs.declared.header.Header.{Header}
use Rattle.commit_log.specs.Segment.{◌>>=◌, Reading, segment, told, reading_of, open_gate, header_bytes, framed, frame_bytes, frame_at, frames_from, segment_at, first_gate}
use Rattle.commit_log.specs.Segment as whole
use Rattle.commit_log.specs.Frames.{closed, wrong, found_from, found_at, HasRead}
use Rattle.commit_log.proofs.Written.{header_again, frame_again, length-flat}

-- these payloads, and where the closed gate or the damage behind them stands
abbrev ending : List (List ℕ) → Result ℕ ℕ → Result (List (List ℕ) × ℕ) ℕ
ending payloads (Ok gate) = Ok (payloads, gate)
ending payloads (Err offset) = Err offset

-- reading ends so at this gate
abbrev EndsSo : ℕ → List ℕ → Result ℕ ℕ → Type 0
EndsSo gate bytes end = (most : ℕ) → frames_from (suc most) gate bytes ≡ ending [] end

one_more : (payload : List ℕ) (payloads : List (List ℕ)) (end : Result ℕ ℕ) → (ending payloads end >>= λ more. Ok (payload ∷ more.0, more.1)) ≡ ending (payload ∷ payloads) end
one_more payload payloads (Ok gate) = refl
one_more payload payloads (Err offset) = refl

frames_behind : (payloads : List (List ℕ)) (most at gate : ℕ) (bytes : List ℕ) (end : Result ℕ ℕ) → EndsSo gate bytes end → 0 < length bytes → gate ≡ at + length (flat_map frame_bytes payloads)
    → gate + 1 < 2 ^ 31 → length payloads < most → frames_from most at (flat_map frame_bytes payloads ++ bytes) ≡ ending payloads end
unfolding frames_from
frames_behind payloads zero at gate bytes end ends more place below enough = absurd (omega arith)
frames_behind [] (suc most) at gate bytes end ends more place below enough =
    let here : at ≡ gate = omega arith in
    ap (λ (n : ℕ). frames_from (suc most) n bytes) here ∙ ends most
frames_behind (payload ∷ payloads) (suc most) at gate bytes end ends more place below enough =
    let behind = flat_map frame_bytes payloads ++ bytes in
    let regrouped : flat_map frame_bytes (payload ∷ payloads) ++ bytes ≡ open_gate ∷ (framed payload ++ behind) =
    ap (λ (l : List ℕ). l ++ bytes) (flat_map-cons frame_bytes payload payloads) ∙ append_assoc (frame_bytes payload) (flat_map frame_bytes payloads) bytes in
    let long : length (flat_map frame_bytes (payload ∷ payloads)) ≡ 5 + length payload + length (flat_map frame_bytes payloads) =
    ap length (flat_map-cons frame_bytes payload payloads) ∙ omega (arith, length-append (frame_bytes payload) (flat_map frame_bytes payloads), length-append (to_be_bytes w32 (length payload)) payload) in
    ap (frames_from (suc most) at) regrouped
    ∙ rw (frame_again (at + 1) payload behind (omega (arith, length-append (flat_map frame_bytes payloads) bytes)) (omega (arith, long)), frames_behind payloads most (at + 5 + length payload) gate bytes end ends more (omega (arith, long)) below (omega arith))
    (one_more payload payloads end)

-- ---- at one gate

closed_ends : (gate : ℕ) (bytes : List ℕ) → found_at gate bytes ≡ closed → EndsSo gate bytes (Ok gate)
unfolding frames_from
closed_ends gate [] is most = absurd (cc is)
closed_ends gate (byte ∷ bytes) is most = elim (cases_Bool (eqb byte open_gate)) [
  | inl is_open ↦ absurd (no_frame (frame_at (gate + 1) bytes) (sym (ap (λ b. cond b (found_from (frame_at (gate + 1) bytes)) closed) is_open) ∙ is))
  | inr shut ↦ rw shut refl
]
  where
    no_frame : (found : Result (List ℕ × List ℕ) ℕ) → found_from found ≡ closed → ⊥
    no_frame (Ok x) is = cc is
    no_frame (Err offset) is = cc is

wrong_ends : (gate offset : ℕ) (bytes : List ℕ) → found_at gate bytes ≡ wrong offset → EndsSo gate bytes (Err offset)
unfolding frames_from
wrong_ends gate offset [] is most = let same : gate ≡ offset = cc is in ap Err same
wrong_ends gate offset (byte ∷ bytes) is most = elim (cases_Bool (eqb byte open_gate)) [
  | inl is_open ↦
      let broken : frame_at (gate + 1) bytes ≡ Err offset = no_frame (frame_at (gate + 1) bytes) (sym (ap (λ b. cond b (found_from (frame_at (gate + 1) bytes)) closed) is_open) ∙ is) in
      rw (is_open, broken) refl
  | inr shut ↦
      let none : closed ≡ wrong offset = sym (ap (λ b. cond b (found_from (frame_at (gate + 1) bytes)) closed) shut) ∙ is in
      absurd (cc none)
]
  where
    no_frame : (found : Result (List ℕ × List ℕ) ℕ) → found_from found ≡ wrong offset → found ≡ Err offset
    no_frame (Ok x) is = absurd (cc is)
    no_frame (Err other) is = let same : other ≡ offset = cc is in ap Err same

some_byte : (gate : ℕ) (bytes : List ℕ) → found_at gate bytes ≡ closed → 0 < length bytes
some_byte gate [] is = absurd (cc is)
some_byte gate (byte ∷ bytes) is = omega arith

-- ---- of the whole file

abbrev read_so : Header → List (List ℕ) → Result ℕ ℕ → Reading
read_so h payloads (Ok gate) = segment h payloads gate
read_so h payloads (Err offset) = whole.damaged offset

reads_so : (content : List ℕ) (h : Header) (payloads : List (List ℕ)) (gate : ℕ) (end : Result ℕ ℕ) → HasRead content h payloads gate → gate + 1 < 2 ^ 31 → 0 < length (drop gate content)
    → EndsSo gate (drop gate content) end → reading_of content ≡ read_so h payloads end
reads_so content h payloads gate end has_read below more ends =
    ap reading_of split ∙ ap told found ∙ by_end end
  where
    split : content ≡ open_gate ∷ (header_bytes h ++ (flat_map frame_bytes payloads ++ drop gate content))
    split =
        sym (take-append-drop gate content) ∙ ap (λ (l : List ℕ). l ++ drop gate content) has_read.front
        ∙ append_assoc (open_gate ∷ header_bytes h) (flat_map frame_bytes payloads) (drop gate content)

    place : gate ≡ first_gate + length (flat_map frame_bytes payloads)
    place = omega (arith, has_read.inside, length-take gate content, ap length has_read.front, length-append (open_gate ∷ header_bytes h) (flat_map frame_bytes payloads))

    frames : frames_from (suc (length (flat_map frame_bytes payloads ++ drop gate content))) first_gate (flat_map frame_bytes payloads ++ drop gate content) ≡ ending payloads end
    frames =
        frames_behind payloads (suc (length (flat_map frame_bytes payloads ++ drop gate content))) first_gate gate (drop gate content) end ends more place below
        (omega (arith, length-append (flat_map frame_bytes payloads) (drop gate content), length-flat payloads))

    found : segment_at (header_bytes h ++ (flat_map frame_bytes payloads ++ drop gate content)) ≡ (ending payloads end >>= λ frames. Ok (h, frames))
    found = rw (header_again h (flat_map frame_bytes payloads ++ drop gate content) has_read.fits, frames) refl

    by_end : (end : Result ℕ ℕ) → told (ending payloads end >>= λ frames. Ok (h, frames)) ≡ read_so h payloads end
    by_end (Ok gate) = refl
    by_end (Err offset) = refl

-- at a closed gate the file is the segment before it
pub whole_ends : (content : List ℕ) (h : Header) (payloads : List (List ℕ)) (gate : ℕ) → HasRead content h payloads gate → gate + 1 < 2 ^ 31
    → found_at gate (drop gate content) ≡ closed → reading_of content ≡ segment h payloads gate
whole_ends content h payloads gate has_read below is =
    reads_so content h payloads gate (Ok gate) has_read below (some_byte gate (drop gate content) is) (closed_ends gate (drop gate content) is)

-- and where no whole frame stands behind a gate in the file, it is damaged there
pub whole_breaks : (content : List ℕ) (h : Header) (payloads : List (List ℕ)) (gate offset : ℕ) → HasRead content h payloads gate → gate + 1 < 2 ^ 31 → gate < length content
    → found_at gate (drop gate content) ≡ wrong offset → reading_of content ≡ whole.damaged offset
whole_breaks content h payloads gate offset has_read below inside is =
    reads_so content h payloads gate (Err offset) has_read below (omega (arith, length-drop gate content)) (wrong_ends gate offset (drop gate content) is)
