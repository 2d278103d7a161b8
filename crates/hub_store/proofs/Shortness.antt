-- Logs stay below the segment's length.
use Rattle.std.proofs.Common.{◌≡◌, ◌≢◌, inl, inr, ℕ, ◌+◌, ◌<◌, ◌≤◌, max, List, [], ◌∷◌, ◌++◌, length, Some, sym, subst, arith}
use Rattle.std.proofs.Math.ListN.{set}
use Rattle.std.proofs.lemmas.Bool.{cases_eq}
use Rattle.std.proofs.lemmas.List.{get_or-set_same, get_or-set_other}
use Rattle.commit_log.specs.declared.header.Header.{Header}
use Rattle.commit_log.specs.Segment.{open_gate, segment, reading_of}
use Rattle.commit_log.specs.States.{HasFramesOrOneMore}
use Rattle.commit_log.proofs.Steps.{either_frames, whole_frame}
use Rattle.commit_log.proofs.Written.{reads_closed}
use Rattle.dura_value.specs.Items.{Entry}
use Rattle.hub_store.specs.Short.{reach_of, KeepsShort, IsShort}
use Rattle.hub_store.specs.Trail.{Settled, of_part}
use Rattle.hub_store.specs.Ways.{way_of, going_in, WayFits}
use Rattle.hub_store.specs.declared.way.Way.{Way}
use Rattle.hub_store.specs.declared.way.Way.TheVariants.{Resting, Bodied, Synced, Gated, Safe, BrokenBody, BrokenGate, Away}
use Rattle.log_items.specs.Plain.{entries_of}
use Rattle.part_items.specs.Spelling.{spell_frame}
use Rattle.site_model.specs.History.{Change, reads}

-- a frame that was under way leaves no longer log
pub still_short : (segment_length : ℕ) (settled now : List Entry) (old way : Way) (going : List Entry) → going_in old ≡ Some going → reach_of way ≤ reach_of old → KeepsShort segment_length settled old → KeepsShort segment_length now way
still_short segment_length settled now old way going has less (inr short) = inr (omega (arith, less, short))
still_short segment_length settled now (Resting log) way going has less (inl rests) = absurd (cc has)
still_short segment_length settled now (Bodied log frame) way going has less (inl rests) = absurd (cc rests.0)
still_short segment_length settled now (Synced log frame) way going has less (inl rests) = absurd (cc rests.0)
still_short segment_length settled now (Gated log frame) way going has less (inl rests) = absurd (cc rests.0)
still_short segment_length settled now (Safe log frame) way going has less (inl rests) = absurd (cc rests.0)
still_short segment_length settled now (BrokenBody log frame) way going has less (inl rests) = absurd (cc rests.0)
still_short segment_length settled now (BrokenGate log frame) way going has less (inl rests) = absurd (cc rests.0)
still_short segment_length settled now Away way going has less (inl rests) = absurd (cc has)

-- where one partition's frame moved
pub short_put : (ways : List Way) (p count : ℕ) (way : Way) (segment_length : ℕ) (old new : List Settled) → length ways ≡ count → p < count → KeepsShort segment_length (of_part p new) way
    → ((q : ℕ) → q ≢ p → of_part q new ≡ of_part q old) → ((q : ℕ) → q < count → KeepsShort segment_length (of_part q old) (way_of ways q)) → (q : ℕ) → q < count → KeepsShort segment_length (of_part q new) (way_of (set ways p way) q)
short_put ways p count way segment_length old new many below here same there q inside = elim (cases_eq q p) [
  | inl own ↦
      subst (λ (r : ℕ). KeepsShort segment_length (of_part r new) (way_of (set ways p way) r)) (sym own)
      (subst (KeepsShort segment_length (of_part p new)) (sym (get_or-set_same ways p way Away (omega (arith, many, below)))) here)
  | inr apart ↦
      subst (KeepsShort segment_length (of_part q new)) (sym (get_or-set_other ways p q way Away apart))
      (subst (λ (l : List Entry). KeepsShort segment_length l (way_of ways q)) (sym (same q apart)) (there q inside))
]

-- ---- what is read

same_gate : (h other : Header) (payloads more : List (List ℕ)) (gate end : ℕ) (bytes : List ℕ) → reading_of bytes ≡ segment h payloads gate → reading_of bytes ≡ segment other more end → end ≡ gate
same_gate h other payloads more gate end bytes one two = cc (one, two)

-- a log with a frame under way ends at one of two gates
by_either : (h other : Header) (payloads more : List (List ℕ)) (payload : List ℕ) (gate next end : ℕ) (bytes : List ℕ) → HasFramesOrOneMore h payloads payload gate next bytes → reading_of bytes ≡ segment other more end → end + 1 ≤ max gate next + 1
by_either h other payloads more payload gate next end bytes (inl before) is = let same = same_gate h other payloads more gate end bytes before is in omega (arith, same)
by_either h other payloads more payload gate next end bytes (inr behind) is = let same = same_gate h other (payloads ++ payload ∷ []) more next end bytes behind is in omega (arith, same)

-- a file that fits its way ends no later than that reaches
pub reads_within : (file : ℕ) (h other : Header) (payloads more : List (List ℕ)) (end : ℕ) (changes : List Change) (way : Way) → WayFits file h payloads changes way → reading_of (reads changes) ≡ segment other more end → end + 1 ≤ reach_of way
reads_within file h other payloads more end changes (Resting log) fits is =
    let here : reading_of (reads changes) ≡ segment h payloads log.gate = subst (λ (l : List ℕ). reading_of l ≡ segment h payloads log.gate) (sym fits.1.content) (reads_closed h payloads log.gate fits.1.byte fits.1.rest fits.1.ends fits.1.closed) in
    let same = same_gate h other payloads more log.gate end (reads changes) here is in
    omega (arith, same)
reads_within file h other payloads more end changes (Bodied log frame) fits is =
    let payload = spell_frame (entries_of frame) in
    by_either h other payloads more payload log.gate log.next end (reads changes)
    (either_frames h payloads payload log.gate log.next fits.1.ends fits.1.ends_after (reads changes) (whole_frame h payloads payload log.gate log.next fits.1.ends fits.1.ends_after fits.1.byte fits.1.tail (reads changes) fits.1.content)) is
reads_within file h other payloads more end changes (Synced log frame) fits is =
    let payload = spell_frame (entries_of frame) in
    by_either h other payloads more payload log.gate log.next end (reads changes)
    (either_frames h payloads payload log.gate log.next fits.1.ends fits.1.ends_after (reads changes) (whole_frame h payloads payload log.gate log.next fits.1.ends fits.1.ends_after fits.1.byte fits.1.tail (reads changes) fits.1.content)) is
reads_within file h other payloads more end changes (Gated log frame) fits is =
    let payload = spell_frame (entries_of frame) in
    by_either h other payloads more payload log.gate log.next end (reads changes)
    (either_frames h payloads payload log.gate log.next fits.1.ends fits.1.ends_after (reads changes) (whole_frame h payloads payload log.gate log.next fits.1.ends fits.1.ends_after open_gate fits.1.tail (reads changes) fits.1.content)) is
reads_within file h other payloads more end changes (Safe log frame) fits is =
    let payload = spell_frame (entries_of frame) in
    by_either h other payloads more payload log.gate log.next end (reads changes)
    (either_frames h payloads payload log.gate log.next fits.1.opened.ends fits.1.opened.ends_after (reads changes) (whole_frame h payloads payload log.gate log.next fits.1.opened.ends fits.1.opened.ends_after open_gate fits.1.opened.tail (reads changes) fits.1.opened.content)) is
reads_within file h other payloads more end changes (BrokenBody log frame) fits is =
    let here : reading_of (reads changes) ≡ segment h payloads log.gate = subst (λ (l : List ℕ). reading_of l ≡ segment h payloads log.gate) (sym fits.1.content) (reads_closed h payloads log.gate fits.1.byte fits.1.rest fits.1.ends fits.1.closed) in
    let same = same_gate h other payloads more log.gate end (reads changes) here is in
    omega (arith, same)
reads_within file h other payloads more end changes (BrokenGate log frame) fits is =
    let payload = spell_frame (entries_of frame) in
    by_either h other payloads more payload log.gate log.next end (reads changes)
    (either_frames h payloads payload log.gate log.next fits.1.ends fits.1.ends_after (reads changes) fits.1.content) is
reads_within file h other payloads more end changes Away fits is = absurd fits

-- a log that keeps short reads so
pub short_read : (file segment_length : ℕ) (h : Header) (payloads : List (List ℕ)) (settled : List Entry) (changes : List Change) (way : Way) → WayFits file h payloads changes way → KeepsShort segment_length settled way → IsShort segment_length settled (reads changes)
short_read file segment_length h payloads settled changes way fits (inl rests) other more end is some = absurd (some rests.1)
short_read file segment_length h payloads settled changes way fits (inr short) other more end is some = let within = reads_within file h other payloads more end changes way fits is in omega (arith, within, short)
