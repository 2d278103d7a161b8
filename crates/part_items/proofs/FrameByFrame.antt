-- What is kept from a gate on is what stands there, and what is kept from the next gate on.
use Rattle.std.proofs.Common.{◌≡◌, ◌<◌, ◌+◌, ℕ, zero, suc, List, [], ◌∷◌, ◌++◌, length, drop, Result, Ok, Err, refl, ap, ◌∙◌, arith}
use Rattle.std.proofs.lemmas.List.{length-drop, drop-drop}
use Rattle.commit_log.specs.Segment.{◌>>=◌}
use Rattle.commit_log.specs.Frames.{Found, closed, frame, wrong, found_at}
use Rattle.dura_value.specs.Items.{Entry}
use Rattle.part_items.specs.Numbered.{Next, behind_all, next_frame_in}
use Rattle.part_items.specs.Kept.{in_file, at_gate, entries_from, left_from}

-- what is read behind a frame: its entries, and what more reads behind them
abbrev behind_frame : (gate : ℕ) → Next → (payload : List ℕ) → (List Entry → Result (List Entry × ℕ) ℕ) → Result (List Entry × ℕ) ℕ
behind_frame gate next payload more = in_file (gate + 5) (next_frame_in next payload) >>= λ entries. more entries >>= λ found. Ok (entries ++ found.0, found.1)

-- a bound on the frames that is past the bytes is any
pub enough : (a b gate : ℕ) (next : Next) (bytes : List ℕ) → length bytes < a → length bytes < b → entries_from a gate next bytes ≡ entries_from b gate next bytes
unfolding entries_from
enough zero b gate next bytes low high = absurd (omega (arith, low))
enough (suc a) zero gate next bytes low high = absurd (omega (arith, high))
enough (suc a) (suc b) gate next [] low high = refl
enough (suc a) (suc b) gate next (byte ∷ bytes) low high =
    ap (at_gate gate (found_at gate (byte ∷ bytes))) (λ i payload. behind_frame gate next payload (λ entries.
    enough a b (gate + 5 + length payload) (behind_all next entries) (drop (5 + length payload) (byte ∷ bytes)) (shorter a payload low) (shorter b payload high) i))
  where
    shorter : (most : ℕ) (payload : List ℕ) → length (byte ∷ bytes) < suc most → length (drop (5 + length payload) (byte ∷ bytes)) < most
    shorter most payload within = omega (arith, within, length-drop (5 + length payload) (byte ∷ bytes))

-- a frame is never behind the end
frame_inside : (gate : ℕ) (bytes payload : List ℕ) → found_at gate bytes ≡ frame payload → 0 < length bytes
frame_inside gate [] payload is = absurd (cc is)
frame_inside gate (byte ∷ bytes) payload is = omega arith

pub left_frame : (content : List ℕ) (gate : ℕ) (next : Next) (payload : List ℕ) → found_at gate (drop gate content) ≡ frame payload
    → left_from content gate next ≡ behind_frame gate next payload (λ entries. left_from content (gate + 5 + length payload) (behind_all next entries))
unfolding entries_from
left_frame content gate next payload is =
    let bytes = drop gate content in
    let some = frame_inside gate bytes payload is in
    let past = 5 + length payload in
    let low : length (drop past bytes) < length content = omega (arith, some, length-drop gate content, length-drop past bytes) in
    ap (λ (found : Found). at_gate gate found (λ found_payload. behind_frame gate next found_payload (λ entries.
    entries_from (length content) (gate + 5 + length found_payload) (behind_all next entries) (drop (5 + length found_payload) bytes)))) is
    ∙ ap (behind_frame gate next payload) (λ i entries.
    (enough (length content) (suc (length content)) (gate + 5 + length payload) (behind_all next entries) (drop past bytes) low (omega (arith, low))
    ∙ ap (entries_from (suc (length content)) (gate + 5 + length payload) (behind_all next entries)) rest) i)
  where
    rest : drop (5 + length payload) (drop gate content) ≡ drop (gate + 5 + length payload) content
    rest = drop-drop (5 + length payload) gate content ∙ ap (λ (k : ℕ). drop k content) (omega arith)

pub left_closed : (content : List ℕ) (gate : ℕ) (next : Next) → found_at gate (drop gate content) ≡ closed → left_from content gate next ≡ Ok ([], gate)
unfolding entries_from
left_closed content gate next is = ap (λ (found : Found). at_gate gate found (λ payload. behind_frame gate next payload (λ entries.
    entries_from (length content) (gate + 5 + length payload) (behind_all next entries) (drop (5 + length payload) (drop gate content))))) is

pub left_wrong : (content : List ℕ) (gate : ℕ) (next : Next) (offset : ℕ) → found_at gate (drop gate content) ≡ wrong offset → left_from content gate next ≡ Err offset
unfolding entries_from
left_wrong content gate next offset is = ap (λ (found : Found). at_gate gate found (λ payload. behind_frame gate next payload (λ entries.
    entries_from (length content) (gate + 5 + length payload) (behind_all next entries) (drop (5 + length payload) (drop gate content))))) is
