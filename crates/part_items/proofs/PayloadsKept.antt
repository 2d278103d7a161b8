-- A log keeps what its payloads are read as.
use Rattle.std.proofs.Common.{◌≡◌, ◌+◌, ◌==◌, ℕ, zero, suc, Bool, true, false, cond, List, [], ◌∷◌, ◌++◌, length, drop, Result, Ok, Err, refl, sym, ap, ◌∙◌, arith}
use Rattle.std.specs.Prelude.{◌↔◌}
use Rattle.std.proofs.lemmas.List.{length-drop, drop-drop}
use Rattle.commit_log.specs.declared.header.Header.{Header}
use Rattle.commit_log.specs.Segment.{◌>>=◌, open_gate, header_at, frame_at, frames_from, first_gate, segment_at, told, segment, fresh, reading_of}
use Rattle.commit_log.specs.Frames.{closed, found_from, header_for, opening_from}
use Rattle.commit_log.specs.Frames as logs
use Rattle.dura_value.specs.Items.{Entry}
use Rattle.part_items.specs.Numbered.{Next, behind_all, next_frame_in}
use Rattle.part_items.specs.Kept.{nothing, keeps, in_file, at_gate, entries_from, left_from, kept_under, kept_from, kept_in, first_of, decoded}
use Rattle.part_items.proofs.Bytes.{good, same_ok, frame_rest, header_rest, header_here, header_only, begins, reading_is, opening_is}
use Rattle.part_items.proofs.FrameByFrame.{enough}
use Rattle.dura_value.proofs.Basics.{both_ok}

-- ---- frames

abbrev Frames : Type 0
Frames = List (List ℕ) × ℕ

abbrev Entries : Type 0
Entries = List Entry × ℕ

abbrev with_payload : List ℕ → Frames → Result Frames ℕ
with_payload payload more = Ok (payload ∷ more.0, more.1)

-- one step after another
both_bound : {X Y Z : Type 0} (r : Result X ℕ) (f : X → Result Y ℕ) (g : X → Y → Result Z ℕ) (x : X) (y : Y) → r ≡ Ok x → f x ≡ Ok y → (r >>= λ a. f a >>= g a) ≡ g x y
both_bound r f g x y one two = ap (λ (s : Result _ ℕ). s >>= λ a. f a >>= g a) one ∙ ap (λ (s : Result _ ℕ). s >>= g x) two

-- the bytes behind a frame
behind_frame : (at byte : ℕ) (bytes : List ℕ) (x : List ℕ × List ℕ) → frame_at at bytes ≡ Ok x → drop (5 + length x.0) (byte ∷ bytes) ≡ x.1
behind_frame at byte bytes x is = let more : 5 + length x.0 ≡ suc (4 + length x.0) = omega arith in ap (λ (k : ℕ). drop k (byte ∷ bytes)) more ∙ sym (frame_rest at bytes x is)

frames_kept : (most at : ℕ) (next : Next) (bytes : List ℕ) (frames : Frames) (entries : List Entry) → frames_from most at bytes ≡ Ok frames → decoded at next frames.0 ≡ Ok entries → entries_from most at next bytes ≡ Ok (entries, frames.1)
unfolding frames_from entries_from
frames_kept zero at next bytes frames entries is reads = absurd (cc is)
frames_kept (suc most) at next [] frames entries is reads = absurd (cc is)
frames_kept (suc most) at next (byte ∷ bytes) frames entries is reads = by (byte == open_gate) (frame_at (at + 1) bytes) refl is (frames_kept most)
  where
    by : (test : Bool) (found : Result (List ℕ × List ℕ) ℕ) → frame_at (at + 1) bytes ≡ found
        → cond test (found >>= λ x. frames_from most (at + 5 + length x.0) x.1 >>= with_payload x.0) (Ok ([], at)) ≡ Ok frames
        → ((at : ℕ) (next : Next) (bytes : List ℕ) (frames : Frames) (entries : List Entry) → frames_from most at bytes ≡ Ok frames → decoded at next frames.0 ≡ Ok entries → entries_from most at next bytes ≡ Ok (entries, frames.1))
        → at_gate at (cond test (found_from found) closed) (λ payload. in_file (at + 5) (next_frame_in next payload) >>= λ es. entries_from most (at + 5 + length payload) (behind_all next es) (drop (5 + length payload) (byte ∷ bytes)) >>= λ more. Ok (es ++ more.0, more.1)) ≡ Ok (entries, frames.1)
    by false found at_frame is rest =
        let same : ([], at) ≡ frames = same_ok ([], at) frames is in
        let none : [] ≡ entries = same_ok [] entries (ap (λ (f : Frames). decoded at next f.0) same ∙ reads) in
        λ i. Ok (none i, (same i).1)
    by true (Err offset) at_frame is rest = absurd (cc is)
    by true (Ok x) at_frame is rest =
        let behind = at + 5 + length x.0 in
        let more = both_ok (frames_from most behind x.1) (with_payload x.0) frames is in
        let same : (x.0 ∷ more.0.0, more.0.1) ≡ frames = same_ok (x.0 ∷ more.0.0, more.0.1) frames more.2 in
        let es = both_ok (in_file (at + 5) (next_frame_in next x.0)) (λ es. decoded behind (behind_all next es) more.0.0 >>= λ m. Ok (es ++ m)) entries (ap (λ (f : Frames). decoded at next f.0) same ∙ reads) in
        let ms = both_ok (decoded behind (behind_all next es.0) more.0.0) (λ m. Ok (es.0 ++ m)) entries es.2 in
        let all : es.0 ++ ms.0 ≡ entries = same_ok (es.0 ++ ms.0) entries ms.2 in
        let ends : good (es.0 ++ ms.0, more.0.1) ≡ Ok (entries, frames.1) = λ i. Ok (all i, (same i).1) in
        let there = ap (entries_from most behind (behind_all next es.0)) (behind_frame (at + 1) byte bytes x at_frame) ∙ rest behind (behind_all next es.0) x.1 more.0 ms.0 more.1 ms.1 in
        both_bound (in_file (at + 5) (next_frame_in next x.0)) (λ es. entries_from most behind (behind_all next es) (drop (5 + length x.0) (byte ∷ bytes))) (λ es m. Ok (es ++ m.0, m.1)) es.0 (ms.0, more.0.1) es.1 there
        ∙ ends

-- the frames that entries were read of
record Framed (most at : ℕ) (next : Next) (bytes : List ℕ) (found : Entries) : Type 0 where
  payloads : List (List ℕ)
  framed : frames_from most at bytes ≡ Ok (payloads, found.1)
  reads : decoded at next payloads ≡ Ok found.0

frames_only : (most at : ℕ) (next : Next) (bytes : List ℕ) (found : Entries) → entries_from most at next bytes ≡ Ok found → Framed most at next bytes found
unfolding frames_from entries_from
frames_only zero at next bytes found is = absurd (cc is)
frames_only (suc most) at next [] found is = absurd (cc is)
frames_only (suc most) at next (byte ∷ bytes) found is =
    let it = by (byte == open_gate) (frame_at (at + 1) bytes) refl is (frames_only most) in record { payloads = it.0; framed = it.1; reads = it.2 }
  where
    by : (test : Bool) (r : Result (List ℕ × List ℕ) ℕ) → frame_at (at + 1) bytes ≡ r
        → at_gate at (cond test (found_from r) closed) (λ payload. in_file (at + 5) (next_frame_in next payload) >>= λ es. entries_from most (at + 5 + length payload) (behind_all next es) (drop (5 + length payload) (byte ∷ bytes)) >>= λ more. Ok (es ++ more.0, more.1)) ≡ Ok found
        → ((at : ℕ) (next : Next) (bytes : List ℕ) (found : Entries) → entries_from most at next bytes ≡ Ok found → Framed most at next bytes found)
        → (payloads : List (List ℕ)) × (cond test (r >>= λ x. frames_from most (at + 5 + length x.0) x.1 >>= with_payload x.0) (Ok ([], at)) ≡ Ok (payloads, found.1)) × (decoded at next payloads ≡ Ok found.0)
    by false r at_frame is rest = let same : ([], at) ≡ found = same_ok ([], at) found is in ([], λ i. Ok ([], (same i).1), λ i. Ok ((same i).0))
    by true (Err offset) at_frame is rest = absurd (cc is)
    by true (Ok x) at_frame is rest =
        let behind = at + 5 + length x.0 in
        let es = both_ok (in_file (at + 5) (next_frame_in next x.0)) (λ es. entries_from most behind (behind_all next es) (drop (5 + length x.0) (byte ∷ bytes)) >>= λ m. Ok (es ++ m.0, m.1)) found is in
        let ms = both_ok (entries_from most behind (behind_all next es.0) (drop (5 + length x.0) (byte ∷ bytes))) (λ m. Ok (es.0 ++ m.0, m.1)) found es.2 in
        let same : (es.0 ++ ms.0.0, ms.0.1) ≡ found = same_ok (es.0 ++ ms.0.0, ms.0.1) found ms.2 in
        let later = rest behind (behind_all next es.0) x.1 ms.0 (ap (entries_from most behind (behind_all next es.0)) (sym (behind_frame (at + 1) byte bytes x at_frame)) ∙ ms.1) in
        let frames_end : good (x.0 ∷ later.payloads, ms.0.1) ≡ Ok (x.0 ∷ later.payloads, found.1) = λ i. Ok (x.0 ∷ later.payloads, (same i).1) in
        let entries_end : good (es.0 ++ ms.0.0) ≡ Ok found.0 = λ i. Ok ((same i).0) in (
          x.0 ∷ later.payloads,
          ap (λ (r : Result Frames ℕ). r >>= with_payload x.0) later.framed ∙ frames_end,
          both_bound (in_file (at + 5) (next_frame_in next x.0)) (λ es. decoded behind (behind_all next es) later.payloads) (λ es m. Ok (es ++ m)) es.0 ms.0.0 es.1 later.reads
              ∙ entries_end,
        )

-- ---- the whole file

told_parts : (test : Bool) (r : Result (Header × Frames) ℕ) (h : Header) (payloads : List (List ℕ)) (gate : ℕ) → cond test (told r) fresh ≡ segment h payloads gate → (test ≡ true) × (r ≡ Ok (h, (payloads, gate)))
told_parts false r h payloads gate is = absurd (cc is)
told_parts true (Err offset) h payloads gate is = absurd (cc is)
told_parts true (Ok found) h payloads gate is =
    let first : found.0 ≡ h = cc is in
    let second : found.1.0 ≡ payloads = cc is in
    let third : found.1.1 ≡ gate = cc is in
    (refl, λ i. Ok (first i, (second i, third i)))

under_parts : (header h : Header) (r : Result Entries ℕ) (entries : List Entry) (gate : ℕ) → kept_under header r ≡ keeps h entries gate → (header ≡ h) × (r ≡ Ok (entries, gate))
under_parts header h (Err offset) entries gate is = absurd (cc is)
under_parts header h (Ok found) entries gate is =
    let first : found.0 ≡ entries = cc is in
    let second : found.1 ≡ gate = cc is in
    let same : header ≡ h = cc is in
    (same, λ i. Ok (first i, second i))

-- a log's header was read, and this is what is kept behind it
record Opened (content : List ℕ) (test : Bool) (r : Result (Header × List ℕ) ℕ) (h : Header) (entries : List Entry) (gate : ℕ) : Type 0 where
  begun : test ≡ true
  rest : List ℕ
  opened : r ≡ Ok (h, rest)
  left : left_from content first_gate (first_of h) ≡ Ok (entries, gate)

opened_parts : (content : List ℕ) (test : Bool) (r : Result (Header × List ℕ) ℕ) (h : Header) (entries : List Entry) (gate : ℕ) → kept_from content (cond test (opening_from r) logs.fresh) ≡ keeps h entries gate → Opened content test r h entries gate
opened_parts content false r h entries gate is = absurd (cc is)
opened_parts content true (Err offset) h entries gate is = absurd (cc is)
opened_parts content true (Ok x) h entries gate is =
    let parts = under_parts x.0 h (left_from content first_gate (first_of x.0)) entries gate is in
    record {
      begun = refl;
      rest = x.1;
      opened = λ i. Ok (parts.0 i, x.1);
      left = ap (λ (header : Header). left_from content first_gate (first_of header)) (sym parts.0) ∙ parts.1;
    }

-- the frames behind a header
left_is : (content rest : List ℕ) (next : Next) → rest ≡ drop 32 (drop 1 content) → left_from content first_gate next ≡ entries_from (suc (length rest)) first_gate next rest
left_is content rest next is =
    let here : drop first_gate content ≡ rest = sym (is ∙ drop-drop 32 1 content) in
    ap (entries_from (suc (length content)) first_gate next) here
    ∙ enough (suc (length content)) (suc (length rest)) first_gate next rest (omega (arith, ap length here, length-drop first_gate content)) (omega arith)

abbrev frames_behind : Header × List ℕ → Result (Header × Frames) ℕ
frames_behind header = frames_from (suc (length header.1)) first_gate header.1 >>= λ frames. Ok (header.0, frames)

pub reading_kept : (partition : ℕ) (content : List ℕ) (h : Header) (payloads : List (List ℕ)) (gate : ℕ) (entries : List Entry) → reading_of content ≡ segment h payloads gate → h.partition ≡ partition
    → decoded first_gate (first_of h) payloads ≡ Ok entries → kept_in partition content ≡ keeps h entries gate
reading_kept partition content h payloads gate entries is here reads =
    let bytes = drop 1 content in
    let log = told_parts (begins content) (segment_at bytes) h payloads gate (sym (reading_is content) ∙ is) in
    let header = both_ok (header_at bytes) frames_behind (h, (payloads, gate)) log.1 in
    let frames = both_ok (frames_from (suc (length header.0.1)) first_gate header.0.1) (λ frames. Ok (header.0.0, frames)) (h, (payloads, gate)) header.2 in
    let same : (header.0.0, frames.0) ≡ (h, (payloads, gate)) = same_ok (header.0.0, frames.0) (h, (payloads, gate)) frames.2 in
    let headed_so : header.0.0 ≡ h = ap (λ (p : Header × Frames). p.0) same in
    let framed : frames_from (suc (length header.0.1)) first_gate header.0.1 ≡ Ok (payloads, gate) = frames.1 ∙ (λ i. Ok ((same i).1)) in
    let opened : header_for partition bytes ≡ Ok header.0 = header_here partition bytes header.0 header.1 (ap (λ (p : Header). p.partition) headed_so ∙ here) in
    let left = left_is content header.0.1 (first_of h) (header_rest bytes header.0 header.1) ∙ frames_kept (suc (length header.0.1)) first_gate (first_of h) header.0.1 (payloads, gate) entries framed reads in
    ap (kept_from content) (opening_is partition content)
    ∙ ap (λ (test : Bool). kept_from content (cond test (opening_from (header_for partition bytes)) logs.fresh)) log.0
    ∙ ap (λ (r : Result (Header × List ℕ) ℕ). kept_from content (opening_from r)) opened
    ∙ ap (λ (p : Header). kept_under p (left_from content first_gate (first_of p))) headed_so
    ∙ ap (kept_under h) left

pub kept_only : (partition : ℕ) (content : List ℕ) (h : Header) (entries : List Entry) (gate : ℕ) → kept_in partition content ≡ keeps h entries gate
    → (payloads : List (List ℕ)) × (reading_of content ≡ segment h payloads gate) × (h.partition ≡ partition) × (decoded first_gate (first_of h) payloads ≡ Ok entries)
kept_only partition content h entries gate is =
    let bytes = drop 1 content in
    let log = opened_parts content (begins content) (header_for partition bytes) h entries gate (sym (ap (kept_from content) (opening_is partition content)) ∙ is) in
    let header = header_only partition bytes (h, log.rest) log.opened in
    let found = frames_only (suc (length log.rest)) first_gate (first_of h) log.rest (entries, gate) (sym (left_is content log.rest (first_of h) (header_rest bytes (h, log.rest) header.0)) ∙ log.left) in (
      found.payloads,
      reading_is content
          ∙ ap (λ (test : Bool). cond test (told (segment_at bytes)) fresh) log.begun
          ∙ ap (λ (r : Result (Header × List ℕ) ℕ). told (r >>= frames_behind)) header.0
          ∙ ap (λ (r : Result Frames ℕ). told (r >>= λ frames. Ok (h, frames))) found.framed,
      header.1,
      found.reads,
    )

-- ---- nothing yet

never_fresh : (r : Result (Header × Frames) ℕ) → told r ≡ fresh → ⊥
never_fresh (Ok found) is = cc is
never_fresh (Err offset) is = cc is

never_nothing : (content : List ℕ) (r : Result (Header × List ℕ) ℕ) → kept_from content (opening_from r) ≡ nothing → ⊥
never_nothing content (Err offset) is = cc is
never_nothing content (Ok x) is = by (left_from content first_gate (first_of x.0)) is
  where
    by : (left : Result Entries ℕ) → kept_under x.0 left ≡ nothing → ⊥
    by (Ok found) is = cc is
    by (Err offset) is = cc is

pub nothing_yet : (partition : ℕ) (content : List ℕ) → (reading_of content ≡ fresh) ↔ (kept_in partition content ≡ nothing)
nothing_yet partition content =
    let it = by (begins content) in (
      λ is. ap (kept_from content) (opening_is partition content) ∙ it.0 (sym (reading_is content) ∙ is),
      λ is. reading_is content ∙ it.1 (sym (ap (kept_from content) (opening_is partition content)) ∙ is),
    )
  where
    by : (test : Bool) → (cond test (told (segment_at (drop 1 content))) fresh ≡ fresh) ↔ (kept_from content (cond test (opening_from (header_for partition (drop 1 content))) logs.fresh) ≡ nothing)
    by false = (λ is. refl, λ is. refl)
    by true = (λ is. absurd (never_fresh (segment_at (drop 1 content)) is), λ is. absurd (never_nothing content (header_for partition (drop 1 content)) is))
