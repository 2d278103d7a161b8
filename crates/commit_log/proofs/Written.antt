-- What was written is read again.
use Rattle.std.proofs.Common.{◌≡◌, ◌≢◌, ℕ, zero, suc, ◌+◌, ◌^◌, ◌<◌, ◌≤◌, Bool, true, false, cond, ltb, eqb, ◌&&◌, List, [], ◌∷◌, ◌++◌, length, take, drop, Ok, Err, refl, sym, ap, ◌∙◌, append_assoc, arith}
use Rattle.std.specs.List.{flat_map}
use Rattle.std.specs.Int.{Width, w32, w64, byte_len, from_be_bytes, to_be_bytes}
use Rattle.std.proofs.lemmas.Bool.{le-ltb, lt-ltb, ne_eqb, and_from}
use Rattle.std.proofs.lemmas.List.{append-nil, take_at, drop_at, length-append}
use Rattle.std.proofs.lemmas.List.Concat.{flat_map-append, flat_map-cons}
use Rattle.std.proofs.lemmas.Nat.{from_be_bytes-to_be_bytes_4, from_be_bytes-to_be_bytes_8}
use Rattle.commit_log.specs.declared.header.Header.{Header}
use Rattle.commit_log.specs.Segment.{told, open_gate, signature, header_bytes, FitsHeader, framed, frame_bytes, segment_bytes, number_at, header_at, frame_at, frames_from, first_gate, segment_at, reading_of}
use Rattle.commit_log.specs.States.{EndsAt, HasFrames}

pub length-framed : (payload : List ℕ) → length (framed payload) ≡ 4 + length payload
length-framed payload = length-append (to_be_bytes w32 (length payload)) payload

-- one frame more
pub segment-push : (h : Header) (payloads : List (List ℕ)) (payload : List ℕ) → segment_bytes h (payloads ++ payload ∷ []) ≡ segment_bytes h payloads ++ (open_gate ∷ framed payload)
segment-push h payloads payload =
    ap (λ (l : List ℕ). (open_gate ∷ header_bytes h) ++ l) (flat_map-append frame_bytes payloads (payload ∷ []) ∙ ap (λ (l : List ℕ). flat_map frame_bytes payloads ++ l) (append-nil (frame_bytes payload)))
    ∙ sym (append_assoc (open_gate ∷ header_bytes h) (flat_map frame_bytes payloads) (frame_bytes payload))

number_again : (w : Width) (at n : ℕ) (rest : List ℕ) → length (to_be_bytes w n) ≡ byte_len w → from_be_bytes w (to_be_bytes w n) ≡ n → number_at w at (to_be_bytes w n ++ rest) ≡ Ok (n, rest)
number_again w at n rest len again =
    let long : ltb (length (to_be_bytes w n ++ rest)) (byte_len w) ≡ false = le-ltb _ _ (omega (arith, length-append (to_be_bytes w n) rest)) in
    rw (long, take_at (to_be_bytes w n) rest (byte_len w) len, drop_at (to_be_bytes w n) rest (byte_len w) len, again) refl

pub number32_again : (at n : ℕ) (rest : List ℕ) → n < 2 ^ 32 → number_at w32 at (to_be_bytes w32 n ++ rest) ≡ Ok (n, rest)
number32_again at n rest fits = number_again w32 at n rest refl (from_be_bytes-to_be_bytes_4 n fits)

pub number64_again : (at n : ℕ) (rest : List ℕ) → n < 2 ^ 64 → number_at w64 at (to_be_bytes w64 n ++ rest) ≡ Ok (n, rest)
number64_again at n rest fits = number_again w64 at n rest refl (from_be_bytes-to_be_bytes_8 n fits)

pub header_again : (h : Header) (rest : List ℕ) → FitsHeader h → header_at (header_bytes h ++ rest) ≡ Ok (h, rest)
unfolding header_at
header_again h rest fits =
    let a = to_be_bytes w32 h.partition in
    let b = to_be_bytes w32 h.partitions in
    let c = to_be_bytes w64 h.digest in
    let d = to_be_bytes w64 h.base in
    let regrouped : header_bytes h ++ rest ≡ signature ++ (a ++ (b ++ (c ++ (d ++ rest)))) = simp append_assoc in
    let below : ltb h.base (2 ^ 63) ≡ true = lt-ltb _ _ fits.base in
    let wide : h.base < 2 ^ 64 = omega (arith, fits.base) in
    ap header_at regrouped
    ∙ rw (number32_again 9 h.partition (b ++ (c ++ (d ++ rest))) fits.partition, number32_again 13 h.partitions (c ++ (d ++ rest)) fits.partitions, number64_again 17 h.digest (d ++ rest) fits.digest, number64_again 25 h.base rest wide, below) refl

-- the next gate is in the file, and ends no file that is too long
abbrev pub is_whole : ℕ → ℕ → List ℕ → Bool
is_whole at size rest = ltb size (length rest) && ltb (at + 5 + size) (2 ^ 31)

-- the frame behind a length, by that test
pub frame_by_test : (at size : ℕ) (rest : List ℕ) (b : Bool) → size < 2 ^ 32 → is_whole at size rest ≡ b → frame_at at (to_be_bytes w32 size ++ rest) ≡ cond b (Ok (take size rest, drop size rest)) (Err at)
unfolding frame_at
frame_by_test at size rest b fits test = rw (number32_again at size rest fits, test) refl

pub fits_whole : (at size : ℕ) (rest : List ℕ) → size < length rest → at + 5 + size < 2 ^ 31 → is_whole at size rest ≡ true
fits_whole at size rest inside below = and_from _ _ (lt-ltb _ _ inside) (lt-ltb _ _ below)

pub frame_again : (at : ℕ) (payload rest : List ℕ) → 0 < length rest → at + 5 + length payload < 2 ^ 31 → frame_at at (framed payload ++ rest) ≡ Ok (payload, rest)
frame_again at payload rest more below =
    let whole = fits_whole at (length payload) (payload ++ rest) (omega (arith, length-append payload rest)) below in
    ap (frame_at at) (append_assoc (to_be_bytes w32 (length payload)) payload rest) ∙ frame_by_test at (length payload) (payload ++ rest) true (omega arith) whole
    ∙ rw (take_at payload rest (length payload) refl, drop_at payload rest (length payload) refl) refl

pub frames_again : (payloads : List (List ℕ)) (most at byte : ℕ) (rest : List ℕ) → byte ≢ open_gate → length payloads < most → at + length (flat_map frame_bytes payloads) + 1 < 2 ^ 31
    → frames_from most at (flat_map frame_bytes payloads ++ byte ∷ rest) ≡ Ok (payloads, at + length (flat_map frame_bytes payloads))
unfolding frames_from
frames_again payloads zero at byte rest closed enough below = absurd (omega arith)
frames_again [] (suc most) at byte rest closed enough below =
    let shut : eqb byte open_gate ≡ false = ne_eqb byte open_gate closed in
    let same : at ≡ at + 0 = omega arith in
    rw shut (ap (λ (n : ℕ). Ok ([], n)) same)
frames_again (payload ∷ payloads) (suc most) at byte rest closed enough below =
    let behind = flat_map frame_bytes payloads ++ byte ∷ rest in
    let regrouped : flat_map frame_bytes (payload ∷ payloads) ++ byte ∷ rest ≡ open_gate ∷ (framed payload ++ behind) =
    ap (λ (l : List ℕ). l ++ byte ∷ rest) (flat_map-cons frame_bytes payload payloads) ∙ append_assoc (frame_bytes payload) (flat_map frame_bytes payloads) (byte ∷ rest) in
    let long : length (flat_map frame_bytes (payload ∷ payloads)) ≡ 5 + length payload + length (flat_map frame_bytes payloads) =
    ap length (flat_map-cons frame_bytes payload payloads) ∙ omega (arith, length-append (frame_bytes payload) (flat_map frame_bytes payloads), length-framed payload) in
    let more : 0 < length behind = omega (arith, length-append (flat_map frame_bytes payloads) (byte ∷ rest)) in
    let next : at + 5 + length payload + length (flat_map frame_bytes payloads) ≡ at + length (flat_map frame_bytes (payload ∷ payloads)) = omega (arith, long) in
    ap (frames_from (suc most) at) regrouped
    ∙ rw (frame_again (at + 1) payload behind more (omega (arith, below, long)), frames_again payloads most (at + 5 + length payload) byte rest closed (omega arith) (omega (arith, below, long)))
    (ap (λ (n : ℕ). Ok (payload ∷ payloads, n)) next)

length-header : (h : Header) → length (header_bytes h) ≡ 32
length-header h = refl

pub length-flat : (payloads : List (List ℕ)) → length payloads ≤ length (flat_map frame_bytes payloads)
length-flat [] = omega arith
length-flat (payload ∷ payloads) = omega (arith, ap length (flat_map-cons frame_bytes payload payloads), length-append (frame_bytes payload) (flat_map frame_bytes payloads), length-flat payloads)

pub length-segment : (h : Header) (payloads : List (List ℕ)) → length (segment_bytes h payloads) ≡ 33 + length (flat_map frame_bytes payloads)
length-segment h payloads = omega (arith, length-append (open_gate ∷ header_bytes h) (flat_map frame_bytes payloads), length-header h)

-- frames, a gate that isn't open, and whatever stands behind it
pub reads_closed : (h : Header) (payloads : List (List ℕ)) (gate byte : ℕ) (rest : List ℕ) → EndsAt h payloads gate → byte ≢ open_gate → HasFrames h payloads gate (segment_bytes h payloads ++ byte ∷ rest)
reads_closed h payloads gate byte rest ends closed =
    let flat = flat_map frame_bytes payloads in
    let behind = flat ++ byte ∷ rest in
    let regrouped : segment_bytes h payloads ++ byte ∷ rest ≡ open_gate ∷ (header_bytes h ++ behind) = append_assoc (open_gate ∷ header_bytes h) flat (byte ∷ rest) in
    let long = length-segment h payloads in
    let enough : length payloads < suc (length behind) = omega (arith, length-append flat (byte ∷ rest), length-flat payloads) in
    let frames = frames_again payloads (suc (length behind)) first_gate byte rest closed enough (omega (arith, ends.below, ends.place, long)) in
    let here : first_gate + length flat ≡ gate = omega (arith, ends.place, long) in
    let whole : segment_at (header_bytes h ++ behind) ≡ Ok (h, (payloads, gate)) = rw (header_again h behind ends.fits, frames) (ap (λ (n : ℕ). Ok (h, (payloads, n))) here) in
    ap reading_of regrouped ∙ ap told whole
