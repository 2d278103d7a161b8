-- Payloads are decoded one behind the other, to entries that are numbered on, and those that were spelled to what was spelled.
use Rattle.std.proofs.Common.{◌≡◌, ◌+◌, ℕ, List, [], ◌∷◌, ◌++◌, length, map, Result, Ok, Err, refl, sym, ap, subst, ◌∙◌, append_assoc, append-nil, arith}
use Rattle.std.specs.List.{All, AllByRecursion, flat_map}
use Rattle.std.proofs.lemmas.List.{length-append}
use Rattle.std.proofs.lemmas.List.Elements.{recursion_from_All}
use Rattle.commit_log.specs.Segment.{◌>>=◌, frame_bytes}
use Rattle.commit_log.proofs.Written.{length-framed}
use Rattle.dura_value.specs.Items.{Entry}
use Rattle.part_items.specs.Numbered.{Next, behind_all, IsNumbered, next_frame_in}
use Rattle.part_items.specs.Spelling.{spell_frame}
use Rattle.part_items.specs.ItemFits.{FitsFrame}
use Rattle.part_items.proofs.NumberedFrames.{numbered_is, numbered_again}
use Rattle.part_items.specs.Kept.{in_file, decoded}
use Rattle.part_items.proofs.Behind.{behind_both, numbered_both}
use Rattle.part_items.proofs.Bytes.{good, same_ok}
use Rattle.dura_value.proofs.Basics.{both_ok}

-- these entries, and what was read behind them
abbrev in_front : List Entry → Result (List Entry) ℕ → Result (List Entry) ℕ
in_front entries read = read >>= λ more. Ok (entries ++ more)

in_front_both : (a b : List Entry) (read : Result (List Entry) ℕ) → in_front a (in_front b read) ≡ in_front (a ++ b) read
in_front_both a b (Ok more) = ap (λ (entries : List Entry). good entries) (sym (append_assoc a b more))
in_front_both a b (Err offset) = refl

-- one more frame behind so many bytes of frames
abbrev one_more : (gate : ℕ) → Next → (size : ℕ) → (payload : List ℕ) → List Entry → Result (List Entry) ℕ
one_more gate next size payload entries = in_front entries (in_file (gate + size + 5) (next_frame_in (behind_all next entries) payload))

pub decoded_last : (gate : ℕ) (next : Next) (payloads : List (List ℕ)) (payload : List ℕ)
    → decoded gate next (payloads ++ payload ∷ []) ≡ (decoded gate next payloads >>= one_more gate next (length (flat_map frame_bytes payloads)) payload)
decoded_last gate next [] payload = by (in_file (gate + 5) (next_frame_in next payload)) refl
  where
    by : (read : Result (List Entry) ℕ) → in_file (gate + 5) (next_frame_in next payload) ≡ read → (read >>= λ entries. Ok (entries ++ [])) ≡ one_more gate next 0 payload []
    by read is =
        let here : gate + 0 + 5 ≡ gate + 5 = omega arith in
        as_it_is read ∙ sym (ap (in_front []) (ap (λ (k : ℕ). in_file k (next_frame_in next payload)) here ∙ is))
      where
        as_it_is : (read : Result (List Entry) ℕ) → (read >>= λ entries. Ok (entries ++ [])) ≡ in_front [] read
        as_it_is (Ok entries) = ap (λ (l : List Entry). good l) (append-nil entries)
        as_it_is (Err offset) = refl
decoded_last gate next (first ∷ payloads) payload = by (in_file (gate + 5) (next_frame_in next first)) (λ entries. decoded_last (gate + 5 + length first) (behind_all next entries) payloads payload)
  where
    behind : ℕ
    behind = gate + 5 + length first

    size : ℕ
    size = length (flat_map frame_bytes payloads)

    long : length (flat_map frame_bytes (first ∷ payloads)) ≡ 5 + length first + size
    long = omega (arith, length-append (frame_bytes first) (flat_map frame_bytes payloads), length-framed first)

    rest : (entries : List Entry) (read : Result (List Entry) ℕ)
        → in_front entries (read >>= one_more behind (behind_all next entries) size payload) ≡ (in_front entries read >>= one_more gate next (length (flat_map frame_bytes (first ∷ payloads))) payload)
    rest entries (Err offset) = refl
    rest entries (Ok more) =
        let place : behind + size + 5 ≡ gate + length (flat_map frame_bytes (first ∷ payloads)) + 5 = omega (arith, long) in
        in_front_both entries more (in_file (behind + size + 5) (next_frame_in (behind_all (behind_all next entries) more) payload))
        ∙ ap (λ (n : Next). in_front (entries ++ more) (in_file (behind + size + 5) (next_frame_in n payload))) (sym (behind_both next entries more))
        ∙ ap (λ (k : ℕ). in_front (entries ++ more) (in_file k (next_frame_in (behind_all next (entries ++ more)) payload))) place

    by : (read : Result (List Entry) ℕ) → ((entries : List Entry) → decoded behind (behind_all next entries) (payloads ++ payload ∷ []) ≡ (decoded behind (behind_all next entries) payloads >>= one_more behind (behind_all next entries) size payload))
        → (read >>= λ entries. in_front entries (decoded behind (behind_all next entries) (payloads ++ payload ∷ [])))
        ≡ ((read >>= λ entries. in_front entries (decoded behind (behind_all next entries) payloads)) >>= one_more gate next (length (flat_map frame_bytes (first ∷ payloads))) payload)
    by (Err offset) later = refl
    by (Ok entries) later = ap (in_front entries) (later entries) ∙ rest entries (decoded behind (behind_all next entries) payloads)

file_ok : (at : ℕ) (read : Result (List Entry) ℕ) (entries : List Entry) → in_file at read ≡ Ok entries → read ≡ Ok entries
file_ok at (Ok found) entries is = is
file_ok at (Err offset) entries is = absurd (cc is)

pub decoded_numbered : (gate : ℕ) (next : Next) (payloads : List (List ℕ)) (entries : List Entry) → decoded gate next payloads ≡ Ok entries → IsNumbered next entries
decoded_numbered gate next [] entries is = subst (IsNumbered next) (same_ok [] entries is) tt
decoded_numbered gate next (payload ∷ payloads) entries is =
    let behind = gate + 5 + length payload in
    let first = both_ok (in_file (gate + 5) (next_frame_in next payload)) (λ es. in_front es (decoded behind (behind_all next es) payloads)) entries is in
    let later = both_ok (decoded behind (behind_all next first.0) payloads) (λ more. Ok (first.0 ++ more)) entries first.2 in
    let one = numbered_is next payload first.0 (file_ok (gate + 5) (next_frame_in next payload) first.0 first.1) in
    subst (IsNumbered next) (same_ok (first.0 ++ later.0) entries later.2)
    ((numbered_both next first.0 later.0).1 (one, decoded_numbered behind (behind_all next first.0) payloads later.0 later.1))

pub spelled_appended : (gate : ℕ) (next : Next) (payloads : List (List ℕ)) (entries frame : List Entry) → decoded gate next payloads ≡ Ok entries → FitsFrame frame → IsNumbered (behind_all next entries) frame
    → decoded gate next (payloads ++ spell_frame frame ∷ []) ≡ Ok (entries ++ frame)
spelled_appended gate next payloads entries frame is fits numbered =
    let size = length (flat_map frame_bytes payloads) in
    decoded_last gate next payloads (spell_frame frame)
    ∙ ap (λ (r : Result (List Entry) ℕ). r >>= one_more gate next size (spell_frame frame)) is
    ∙ ap (λ (r : Result (List Entry) ℕ). in_front entries (in_file (gate + size + 5) r)) (numbered_again (behind_all next entries) frame numbered fits)

spelled_each : (gate : ℕ) (next : Next) (frames : List (List Entry)) → AllByRecursion FitsFrame frames → IsNumbered next (flat_map (λ frame. frame) frames) → decoded gate next (map spell_frame frames) ≡ Ok (flat_map (λ frame. frame) frames)
spelled_each gate next [] fits numbered = refl
spelled_each gate next (frame ∷ frames) fits numbered =
    let both = (numbered_both next frame (flat_map (λ frame. frame) frames)).0 numbered in
    let behind = gate + 5 + length (spell_frame frame) in
    ap (λ (r : Result (List Entry) ℕ). in_file (gate + 5) r >>= λ es. in_front es (decoded behind (behind_all next es) (map spell_frame frames))) (numbered_again next frame both.0 fits.0)
    ∙ ap (in_front frame) (spelled_each behind (behind_all next frame) frames fits.1 both.1)

pub spelled_decoded : (gate : ℕ) (next : Next) (frames : List (List Entry)) → All FitsFrame frames → IsNumbered next (flat_map (λ frame. frame) frames) → decoded gate next (map spell_frame frames) ≡ Ok (flat_map (λ frame. frame) frames)
spelled_decoded gate next frames fits = spelled_each gate next frames (recursion_from_All FitsFrame frames fits)
