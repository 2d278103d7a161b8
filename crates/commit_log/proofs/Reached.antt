-- What the bytes that were read ahead say of what stands at the gate.
use Rattle.std.proofs.Common.{◌≡◌, ◌≢◌, ℕ, ◌+◌, ◌-◌, ◌<◌, ◌≤◌, ◌^◌, min, cond, Option, Some, None, List, [], ◌∷◌, ◌++◌, length, take, drop, Result, Ok, Err, sym, ap, subst, ◌∙◌, append_assoc, ne_eqb, arith}
use Rattle.std.specs.Int.{w32, to_be_bytes}
use Rattle.std.proofs.lemmas.List.{take-append-drop, take_all, take-take, drop-take, drop-drop, length-drop, length-take}
use Rattle.commit_log.specs.declared.header.Header.{Header}
use Rattle.commit_log.specs.declared.reader.FrameError.{FrameError}
use Rattle.commit_log.specs.declared.reader.FrameError.TheVariants.{Damaged, SiteFault, Memory}
use Rattle.commit_log.specs.declared.reader.LogReader.{LogReader}
use Rattle.commit_log.specs.declared.reader.Next.{Next}
use Rattle.commit_log.specs.declared.reader.Next.TheVariants.{Frame, End}
use Rattle.site_model.specs.History.{Step, changes_of}
use Rattle.commit_log.specs.Segment.{open_gate, frame_at}
use Rattle.commit_log.specs.States.{IsResting}
use Rattle.commit_log.specs.Frames.{closed, frame, found_from, found_at, HasRead}
use Rattle.commit_log.specs.Fronts.{BeginsFrame, SaysGate}
use Rattle.commit_log.specs.Reading.{Goes, IsAhead}
use Rattle.commit_log.proofs.Gates.{closed_gate, stands, frame_split, frame_read}

-- ---- a front

-- a byte that isn't open closes the gate
shut : (gate byte : ℕ) (bytes : List ℕ) → byte ≢ open_gate → found_at gate (byte ∷ bytes) ≡ closed
shut gate byte bytes apart = ap (λ b. cond b (found_from (frame_at (gate + 1) bytes)) closed) (ne_eqb byte open_gate apart)

front_closed : (gate n : ℕ) (front bytes : List ℕ) → front ≡ take n bytes → found_at gate front ≡ closed → found_at gate bytes ≡ closed
front_closed gate n front bytes is found =
    let first = closed_gate gate front found in
    let whole : bytes ≡ first.0 ∷ (first.1 ++ drop n bytes) = sym (take-append-drop n bytes) ∙ ap (λ (l : List ℕ). l ++ drop n bytes) (sym is ∙ first.2) in
    ap (found_at gate) whole ∙ shut gate first.0 (first.1 ++ drop n bytes) first.3

front_begins : (n size : ℕ) (front bytes : List ℕ) → front ≡ take n bytes → BeginsFrame front size → BeginsFrame bytes size
front_begins n size front bytes is begins = record {
  rest = begins.rest ++ drop n bytes;
  split =
      sym (take-append-drop n bytes) ∙ ap (λ (l : List ℕ). l ++ drop n bytes) (sym is ∙ begins.split)
      ∙ ap (λ (l : List ℕ). open_gate ∷ l) (append_assoc (to_be_bytes w32 size) begins.rest (drop n bytes));
  fits = begins.fits;
}

-- the gate and the length behind it, or all bytes where there are fewer, say of a gate what all bytes do
pub front_says : (gate : ℕ) (front bytes : List ℕ) (result : Result (Option ℕ) FrameError) → front ≡ take (length front) bytes → min 5 (length bytes) ≤ length front
    → SaysGate gate front result → SaysGate gate bytes result
front_says gate front bytes (Ok None) is enough says = front_closed gate (length front) front bytes is says
front_says gate front bytes (Ok (Some size)) is enough says = front_begins (length front) size front bytes is says
front_says gate front bytes (Err (Damaged offset)) is enough says =
    let same : front ≡ bytes = is ∙ take_all (length front) bytes (omega (arith, says.0)) in
    subst (λ (l : List ℕ). SaysGate gate l (Err (Damaged offset))) same says
front_says gate front bytes (Err SiteFault) is enough says = tt
front_says gate front bytes (Err Memory) is enough says = tt

-- ---- a payload and what stands behind it

-- what is dropped from a front leaves a front of what is behind
front_behind : (k n : ℕ) (bytes : List ℕ) → k ≤ n → drop k (take n bytes) ≡ take (n - k) (drop k bytes)
front_behind k n bytes within =
    let split : n ≡ k + (n - k) = omega arith in
    ap (λ (m : ℕ). drop k (take m bytes)) split ∙ drop-take k (n - k) bytes

module _ (content : List ℕ) (reader : LogReader) (is : IsAhead content reader) where
  -- what is said of the gate by the bytes that were read ahead, with these as the front
  pub gate_says : (old : LogReader) (front : List ℕ) (result : Result (Option ℕ) FrameError) → min 5 (old.size - old.gate) ≤ length reader.ahead → reader.gate ≡ old.gate → reader.size ≡ old.size → front ≡ reader.ahead
      → SaysGate reader.gate front result → SaysGate reader.gate (drop reader.gate content) result
  gate_says old front result enough gate size same says =
      front_says reader.gate reader.ahead (drop reader.gate content) result is.ahead (omega (arith, length-drop reader.gate content, is.size)) (subst (λ (l : List ℕ). SaysGate reader.gate l result) same says)

  pub payload_there : (size : ℕ) → 5 + size ≤ length reader.ahead → take size (drop 5 reader.ahead) ≡ take size (drop 5 (drop reader.gate content))
  payload_there size within =
      ap (λ (l : List ℕ). take size (drop 5 l)) is.ahead ∙ ap (take size) (front_behind 5 (length reader.ahead) (drop reader.gate content) (omega (arith, within)))
      ∙ take-take size (length reader.ahead - 5) (drop 5 (drop reader.gate content)) (omega (arith, within))

  pub ahead_behind : (behind : LogReader) (count : ℕ) → count ≤ length reader.ahead → behind.ahead ≡ drop count reader.ahead → behind.gate ≡ reader.gate + count → behind.size ≡ reader.size → IsAhead content behind
  ahead_behind behind count within bytes gate size =
      let left : length behind.ahead ≡ length reader.ahead - count = ap (λ (l : List ℕ). length l) bytes ∙ length-drop count reader.ahead in
      record {
        size = size ∙ is.size;
        ahead =
            bytes ∙ ap (drop count) is.ahead ∙ front_behind count (length reader.ahead) (drop reader.gate content) within
            ∙ ap (take (length reader.ahead - count)) (drop-drop count reader.gate content)
            ∙ ap (λ (n : ℕ). take n (drop (reader.gate + count) content)) (sym left)
            ∙ ap (λ (n : ℕ). take (length behind.ahead) (drop n content)) (sym gate);
      }

-- with a whole frame behind the gate one payload more is read
pub frame_found : (content : List ℕ) (h : Header) (payloads : List (List ℕ)) (payload : List ℕ) (gate size next : ℕ) → HasRead content h payloads gate → BeginsFrame (drop gate content) size
    → payload ≡ take size (drop 5 (drop gate content)) → 5 + size < length (drop gate content) → gate + 6 + size < 2 ^ 31 → next ≡ gate + 5 + size
    → (found_at gate (drop gate content) ≡ frame payload) × HasRead content h (payloads ++ payload ∷ []) next
frame_found content h payloads payload gate size next has_read begins is inside below behind =
    let long : length payload ≡ size = omega (arith, ap (λ (l : List ℕ). length l) is, length-take size (drop 5 (drop gate content)), length-drop 5 (drop gate content)) in
    let read = frame_read content h payloads gate has_read payload _ (frame_split gate size (drop gate content) begins payload long is) in (
      stands gate size (drop gate content) begins payload inside below is,
      subst (HasRead content h (payloads ++ payload ∷ [])) (ap (λ (n : ℕ). gate + 5 + n) long ∙ sym behind) read,
    )

-- ---- the same log

-- what is said at a gate is said of each reader that stands there
pub goes_there : (content : List ℕ) (old new : LogReader) (payloads : List (List ℕ)) (result : Result Next FrameError) → new.header ≡ old.header → new.gate ≡ old.gate
    → Goes content new payloads result → Goes content old payloads result
goes_there content old new payloads (Ok (Frame payload next)) header gate goes = (rw (← gate) goes.0, rw (← header) goes.1)
goes_there content old new payloads (Ok (End log)) header gate goes = (rw (← gate) goes.0, goes.1 ∙ gate, rw (← header) goes.2)
goes_there content old new payloads (Err (Damaged offset)) header gate goes = rw (← gate) goes
goes_there content old new payloads (Err SiteFault) header gate goes = tt
goes_there content old new payloads (Err Memory) header gate goes = tt

pub rests_there : (old new : List Step) (file now : ℕ) (h : Header) (payloads : List (List ℕ)) (gate there : ℕ) → new ≡ old → now ≡ file → there ≡ gate
    → IsResting (changes_of file old) h payloads gate → IsResting (changes_of now new) h payloads there
rests_there old new file now h payloads gate there steps files gates rests = rw (steps, files, gates) rests
