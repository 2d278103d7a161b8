-- What each device call of an append leaves.
use Rattle.std.proofs.Common.{◌≡◌, ◌≢◌, inl, inr, ℕ, ◌+◌, ◌^◌, ◌<◌, ◌≤◌, List, [], ◌∷◌, ◌++◌, length, get_or, take, drop, Result, refl, sym, ap, subst, ◌∙◌, append_assoc, arith}
use Rattle.std.proofs.lemmas.Bool.{cases_eq}
use Rattle.std.proofs.lemmas.List.{append-nil, take_at, drop_at, drop_more, take-append-drop, length-append}
use Rattle.site_model.specs.History.{Change, Step, on, wrote, synced, put, reads, changes_of, Torn, Leaves}
use Rattle.site_model.specs.Calls.{Writes, Syncs}
use Rattle.site_model.specs.Moments.{LeavesOnly}
use Rattle.site_model.proofs.Paths.{own_change, one_call}
use Rattle.site_model.proofs.Images.{torn_front, torn_within}
use Rattle.commit_log.specs.declared.header.Header.{Header}
use Rattle.commit_log.specs.Segment.{open_gate, segment_bytes, framed}
use Rattle.commit_log.specs.States.{EndsAt, IsResting, IsBodied, IsSynced, IsGated, IsBrokenBody, IsBrokenGate, IsBeforeOrAfter, HasFrames, HasFramesOrOneMore}
use Rattle.commit_log.proofs.Written.{segment-push, length-framed, reads_closed}

-- a list, its part before a place, the byte there and what follows
split_at : (n : ℕ) (bytes front : List ℕ) (byte : ℕ) → take (n + 1) bytes ≡ front ++ byte ∷ [] → bytes ≡ front ++ byte ∷ drop (n + 1) bytes
split_at n bytes front byte is =
    sym (take-append-drop (n + 1) bytes) ∙ ap (λ (l : List ℕ). l ++ drop (n + 1) bytes) is ∙ append_assoc front (byte ∷ []) (drop (n + 1) bytes)

-- the front of a file up to a byte
front_of : (n : ℕ) (front : List ℕ) (byte : ℕ) (rest : List ℕ) → n ≡ length front → take (n + 1) (front ++ byte ∷ rest) ≡ front ++ byte ∷ []
front_of n front byte rest place =
    ap (λ (l : List ℕ). take (n + 1) l) (sym (append_assoc front (byte ∷ []) rest))
    ∙ take_at (front ++ byte ∷ []) rest (n + 1) (omega (arith, length-append front (byte ∷ [])))

long_enough : (n : ℕ) (front : List ℕ) (byte : ℕ) (rest : List ℕ) → n ≡ length front → n + 1 ≤ length (front ++ byte ∷ rest)
long_enough n front byte rest place = omega (arith, length-append front (byte ∷ rest))

module _ (h : Header) (payloads : List (List ℕ)) (gate : ℕ) (changes : List Change) (rests : IsResting changes h payloads gate) where
  -- what a crash leaves now
  pub resting_images : (image : List ℕ) → Leaves changes image → HasFrames h payloads gate image
  resting_images image left =
      subst (HasFrames h payloads gate) (sym (rests.kept image left ∙ rests.content)) (reads_closed h payloads gate rests.byte rests.rest rests.ends rests.closed)

  pub resting_long : gate + 1 ≤ length (reads changes)
  resting_long = subst (λ (l : List ℕ). gate + 1 ≤ length l) (sym rests.content) (long_enough gate (segment_bytes h payloads) rests.byte rests.rest rests.ends.place)

  resting_front : take (gate + 1) (reads changes) ≡ segment_bytes h payloads ++ rests.byte ∷ []
  resting_front = ap (λ (l : List ℕ). take (gate + 1) l) rests.content ∙ front_of gate (segment_bytes h payloads) rests.byte rests.rest rests.ends.place

  -- a write behind the gate leaves the front
  behind_front : (size : ℕ) (bytes image : List ℕ) → Leaves (wrote (gate + 1) size bytes ∷ changes) image → take (gate + 1) image ≡ segment_bytes h payloads ++ rests.byte ∷ []
  behind_front size bytes image left =
      let same : left.0 ≡ reads changes = rests.kept left.0 left.1 in
      let torn : Torn (gate + 1) size (reads changes) image = subst (λ (l : List ℕ). Torn (gate + 1) size l image) same left.2 in
      torn_front (gate + 1) (gate + 1) size (reads changes) image (omega arith) resting_long torn ∙ resting_front

  pub behind_images : (size : ℕ) (bytes image : List ℕ) → Leaves (wrote (gate + 1) size bytes ∷ changes) image → HasFrames h payloads gate image
  behind_images size bytes image left =
      subst (HasFrames h payloads gate) (sym (split_at gate image (segment_bytes h payloads) rests.byte (behind_front size bytes image left)))
      (reads_closed h payloads gate rests.byte (drop (gate + 1) image) rests.ends rests.closed)

  behind_content : (bytes : List ℕ) → put (gate + 1) bytes (reads changes) ≡ (segment_bytes h payloads ++ rests.byte ∷ []) ++ bytes ++ drop (gate + 1 + length bytes) (reads changes)
  behind_content bytes = ap (λ (l : List ℕ). l ++ bytes ++ drop (gate + 1 + length bytes) (reads changes)) resting_front

  -- before the write and after any of it, the frame isn't there
  pub resting_broken : IsBrokenBody changes h payloads gate
  resting_broken = record {
    ends = rests.ends;
    byte = rests.byte;
    rest = rests.rest;
    content = rests.content;
    closed = rests.closed;
    front = λ image left. ap (take (gate + 1)) (rests.kept image left) ∙ resting_front;
  }

  pub behind_broken : (size : ℕ) (bytes : List ℕ) → IsBrokenBody (wrote (gate + 1) size bytes ∷ changes) h payloads gate
  behind_broken size bytes = record {
    ends = rests.ends;
    byte = rests.byte;
    rest = bytes ++ drop (gate + 1 + length bytes) (reads changes);
    content = behind_content bytes ∙ simp append_assoc;
    closed = rests.closed;
    front = behind_front size bytes;
  }

  module _ (payload : List ℕ) (next : ℕ) (next-is : next ≡ gate + 5 + length payload) (below : next + 1 < 2 ^ 31) where
    pub ends_after : EndsAt h (payloads ++ payload ∷ []) next
    ends_after = record {
      place = omega (arith, rests.ends.place, ap length (segment-push h payloads payload), length-append (segment_bytes h payloads) (open_gate ∷ framed payload), length-framed payload);
      below = below;
      fits = rests.ends.fits;
    }

    pub bodied : IsBodied (wrote (gate + 1) (length payload + 5) (framed payload ++ 0 ∷ []) ∷ changes) h payloads payload gate next
    bodied =
        let bytes = framed payload ++ 0 ∷ [] in
        let tail = drop (gate + 1 + length bytes) (reads changes) in
        record {
          ends = rests.ends;
          ends_after = ends_after;
          byte = rests.byte;
          tail = tail;
          content = behind_content bytes ∙ regroup (segment_bytes h payloads) rests.byte (framed payload) tail;
          closed = rests.closed;
          front = behind_front (length payload + 5) bytes;
        }
      where
        regroup : (front : List ℕ) (byte : ℕ) (frame tail : List ℕ) → (front ++ byte ∷ []) ++ (frame ++ 0 ∷ []) ++ tail ≡ front ++ byte ∷ frame ++ 0 ∷ tail
        regroup front byte frame tail = simp append_assoc

-- what the write of a body leaves, whatever it answered
pub body_during : {T E : Type 0} (file : ℕ) (old new : List Step) (h : Header) (payloads : List (List ℕ)) (gate : ℕ) (bytes : List ℕ) (result : Result T E)
    → IsResting (changes_of file old) h payloads gate → Writes file (gate + 1) bytes old new result → LeavesOnly file old new (HasFrames h payloads gate)
body_during file old new h payloads gate bytes result rests writes =
    one_call file (wrote (gate + 1) (length bytes) writes.now) old new (HasFrames h payloads gate) writes.either
    (resting_images h payloads gate (changes_of file old) rests) (behind_images h payloads gate (changes_of file old) rests (length bytes) writes.now)

pub body_broken : {T E : Type 0} (file : ℕ) (old new : List Step) (h : Header) (payloads : List (List ℕ)) (gate : ℕ) (bytes : List ℕ) (result : Result T E)
    → IsResting (changes_of file old) h payloads gate → Writes file (gate + 1) bytes old new result → IsBrokenBody (changes_of file new) h payloads gate
body_broken file old new h payloads gate bytes result rests writes = elim writes.either [
  | inl is ↦
      subst (λ (changes : List Change). IsBrokenBody changes h payloads gate)
      (sym (ap (changes_of file) is ∙ own_change file (wrote (gate + 1) (length bytes) writes.now) old))
      (behind_broken h payloads gate (changes_of file old) rests (length bytes) writes.now)
  | inr is ↦ subst (λ (steps : List Step). IsBrokenBody (changes_of file steps) h payloads gate) (sym is) (resting_broken h payloads gate (changes_of file old) rests)
]

-- the bytes of a body are five more than its payload
length-body : (payload : List ℕ) → length (framed payload ++ 0 ∷ []) ≡ length payload + 5
length-body payload = omega (arith, length-append (framed payload) (0 ∷ []), length-framed payload)

pub body_done : (file : ℕ) (old new : List Step) (h : Header) (payloads : List (List ℕ)) (payload : List ℕ) (gate next : ℕ) (bytes : List ℕ)
    → next ≡ gate + 5 + length payload → next + 1 < 2 ^ 31 → bytes ≡ framed payload ++ 0 ∷ []
    → IsResting (changes_of file old) h payloads gate → new ≡ on file (wrote (gate + 1) (length bytes) bytes) ∷ old
    → IsBodied (changes_of file new) h payloads payload gate next
body_done file old new h payloads payload gate next bytes next-is below whole rests is =
    let change : Change = wrote (gate + 1) (length payload + 5) (framed payload ++ 0 ∷ []) in
    let same : wrote (gate + 1) (length bytes) bytes ≡ change =
    ap (λ (l : List ℕ). wrote (gate + 1) (length l) l) whole ∙ ap (λ (n : ℕ). wrote (gate + 1) n (framed payload ++ 0 ∷ [])) (length-body payload) in
    subst (λ (changes : List Change). IsBodied changes h payloads payload gate next)
    (sym (ap (changes_of file) is ∙ own_change file (wrote (gate + 1) (length bytes) bytes) old ∙ ap (λ (x : Change). x ∷ changes_of file old) same))
    (bodied h payloads gate (changes_of file old) rests payload next next-is below)

-- a gate of any byte before a whole frame
module _ (h : Header) (payloads : List (List ℕ)) (payload : List ℕ) (gate next : ℕ) (ends : EndsAt h payloads gate) (ends_after : EndsAt h (payloads ++ payload ∷ []) next) where
  -- where it is open, the frame is there
  one_more : (tail : List ℕ) → HasFrames h (payloads ++ payload ∷ []) next (segment_bytes h payloads ++ open_gate ∷ framed payload ++ 0 ∷ tail)
  one_more tail =
      subst (λ (l : List ℕ). HasFrames h (payloads ++ payload ∷ []) next (l ++ 0 ∷ tail)) (segment-push h payloads payload)
      (reads_closed h (payloads ++ payload ∷ []) next 0 tail ends_after (omega arith))

  pub either_frames : (bytes : List ℕ) → IsBeforeOrAfter h payloads payload bytes → HasFramesOrOneMore h payloads payload gate next bytes
  either_frames bytes stands = elim (cases_eq stands.byte open_gate) [
    | inl is ↦
        let behind = stands.whole is in
        let whole : bytes ≡ segment_bytes h payloads ++ open_gate ∷ framed payload ++ 0 ∷ behind.0 =
        stands.split ∙ ap (λ (b : ℕ). segment_bytes h payloads ++ b ∷ stands.rest) is ∙ ap (λ (l : List ℕ). segment_bytes h payloads ++ open_gate ∷ l) behind.1
        ∙ sym (append_assoc (segment_bytes h payloads) (open_gate ∷ framed payload) (0 ∷ behind.0)) in
        inr (subst (HasFrames h (payloads ++ payload ∷ []) next) (sym whole) (one_more behind.0))
    | inr shut ↦ inl (subst (HasFrames h payloads gate) (sym stands.split) (reads_closed h payloads gate stands.byte stands.rest ends shut))
  ]

  -- a whole frame behind any byte
  pub whole_frame : (byte : ℕ) (tail bytes : List ℕ) → bytes ≡ segment_bytes h payloads ++ byte ∷ framed payload ++ 0 ∷ tail → IsBeforeOrAfter h payloads payload bytes
  whole_frame byte tail bytes is = record {
    byte = byte;
    rest = framed payload ++ 0 ∷ tail;
    split = is ∙ append_assoc (segment_bytes h payloads) (byte ∷ framed payload) (0 ∷ tail);
    whole = λ is_open. (tail, refl);
  }

  -- and behind a byte that isn't open anything
  pub no_frame : (byte : ℕ) (rest bytes : List ℕ) → bytes ≡ segment_bytes h payloads ++ byte ∷ rest → byte ≢ open_gate → IsBeforeOrAfter h payloads payload bytes
  no_frame byte rest bytes is closed = record { byte = byte; rest = rest; split = is; whole = λ is_open. absurd (closed is_open) }

  -- only the byte at the gate changes, whatever a crash makes of a write there
  torn_gate : (byte : ℕ) (tail old image : List ℕ) → old ≡ segment_bytes h payloads ++ byte ∷ framed payload ++ 0 ∷ tail → Torn gate 1 old image
      → (other : ℕ) × (image ≡ segment_bytes h payloads ++ other ∷ framed payload ++ 0 ∷ tail)
  torn_gate byte tail old image is torn =
      let rest = framed payload ++ 0 ∷ tail in
      let whole : old ≡ segment_bytes h payloads ++ byte ∷ rest = is ∙ append_assoc (segment_bytes h payloads) (byte ∷ framed payload) (0 ∷ tail) in
      let long : gate + 1 ≤ length old = subst (λ (l : List ℕ). gate + 1 ≤ length l) (sym whole) (long_enough gate (segment_bytes h payloads) byte rest ends.place) in
      let same = torn_within gate 1 old image long torn in
      let front : take gate image ≡ segment_bytes h payloads =
      torn_front gate gate 1 old image (omega arith) (omega (arith, long)) torn
      ∙ ap (λ (l : List ℕ). take gate l) whole ∙ take_at (segment_bytes h payloads) (byte ∷ rest) gate (sym ends.place) in
      let behind : drop (gate + 1) image ≡ rest =
      same.1 ∙ ap (λ (l : List ℕ). drop (gate + 1) l) (whole ∙ sym (append_assoc (segment_bytes h payloads) (byte ∷ []) rest))
      ∙ drop_at (segment_bytes h payloads ++ byte ∷ []) rest (gate + 1) (omega (arith, length-append (segment_bytes h payloads) (byte ∷ []), ends.place)) in
      let other = get_or image gate 0 in
      let split : image ≡ segment_bytes h payloads ++ other ∷ rest =
      sym (take-append-drop gate image) ∙ ap (λ (l : List ℕ). l ++ drop gate image) front
      ∙ ap (λ (l : List ℕ). segment_bytes h payloads ++ l) (drop_more image gate 0 (omega (arith, same.0, long)) ∙ ap (λ (l : List ℕ). other ∷ l) behind) in
      (other, split ∙ sym (append_assoc (segment_bytes h payloads) (other ∷ framed payload) (0 ∷ tail)))

  -- a byte written at the gate
  put_gate : (new byte : ℕ) (tail old : List ℕ) → old ≡ segment_bytes h payloads ++ byte ∷ framed payload ++ 0 ∷ tail
      → put gate (new ∷ []) old ≡ segment_bytes h payloads ++ new ∷ framed payload ++ 0 ∷ tail
  put_gate new byte tail old is =
      let rest = framed payload ++ 0 ∷ tail in
      let whole : old ≡ segment_bytes h payloads ++ byte ∷ rest = is ∙ append_assoc (segment_bytes h payloads) (byte ∷ framed payload) (0 ∷ tail) in
      let front : take gate old ≡ segment_bytes h payloads = ap (λ (l : List ℕ). take gate l) whole ∙ take_at (segment_bytes h payloads) (byte ∷ rest) gate (sym ends.place) in
      let behind : drop (gate + 1) old ≡ rest =
      ap (λ (l : List ℕ). drop (gate + 1) l) (whole ∙ sym (append_assoc (segment_bytes h payloads) (byte ∷ []) rest))
      ∙ drop_at (segment_bytes h payloads ++ byte ∷ []) rest (gate + 1) (omega (arith, length-append (segment_bytes h payloads) (byte ∷ []), ends.place)) in
      ap (λ (l : List ℕ). l ++ (new ∷ []) ++ drop (gate + 1) old) front ∙ ap (λ (l : List ℕ). segment_bytes h payloads ++ (new ∷ []) ++ l) behind
      ∙ regroup (segment_bytes h payloads) new (framed payload) (0 ∷ tail)
    where
      regroup : (a : List ℕ) (b : ℕ) (c d : List ℕ) → a ++ (b ∷ []) ++ (c ++ d) ≡ a ++ b ∷ c ++ d
      regroup a b c d = simp append_assoc

-- ---- the sync of a body

module _ (h : Header) (payloads : List (List ℕ)) (payload : List ℕ) (gate next : ℕ) (changes : List Change) (bodied : IsBodied changes h payloads payload gate next) where
  pub bodied_images : (image : List ℕ) → Leaves changes image → HasFrames h payloads gate image
  bodied_images image left =
      subst (HasFrames h payloads gate) (sym (split_at gate image (segment_bytes h payloads) bodied.byte (bodied.front image left)))
      (reads_closed h payloads gate bodied.byte (drop (gate + 1) image) bodied.ends bodied.closed)

  bodied_reads : reads changes ≡ segment_bytes h payloads ++ bodied.byte ∷ (framed payload ++ 0 ∷ bodied.tail)
  bodied_reads = bodied.content ∙ append_assoc (segment_bytes h payloads) (bodied.byte ∷ framed payload) (0 ∷ bodied.tail)

  pub bodied_synced_images : (image : List ℕ) → Leaves (synced ∷ changes) image → HasFrames h payloads gate image
  bodied_synced_images image left =
      subst (HasFrames h payloads gate) (sym (left ∙ bodied_reads)) (reads_closed h payloads gate bodied.byte (framed payload ++ 0 ∷ bodied.tail) bodied.ends bodied.closed)

  pub bodied_synced : IsSynced (synced ∷ changes) h payloads payload gate next
  bodied_synced = record {
    ends = bodied.ends;
    ends_after = bodied.ends_after;
    byte = bodied.byte;
    tail = bodied.tail;
    content = bodied.content;
    closed = bodied.closed;
    kept = λ image left. left;
  }

  -- its gate was never tried
  pub bodied_broken : IsBrokenBody changes h payloads gate
  bodied_broken = record {
    ends = bodied.ends;
    byte = bodied.byte;
    rest = framed payload ++ 0 ∷ bodied.tail;
    content = bodied_reads;
    closed = bodied.closed;
    front = bodied.front;
  }

-- ---- a frame whose gate was never tried

module _ (h : Header) (payloads : List (List ℕ)) (gate : ℕ) (changes : List Change) (broken : IsBrokenBody changes h payloads gate) where
  pub untried_images : (image : List ℕ) → Leaves changes image → HasFrames h payloads gate image
  untried_images image left =
      subst (HasFrames h payloads gate) (sym (split_at gate image (segment_bytes h payloads) broken.byte (broken.front image left)))
      (reads_closed h payloads gate broken.byte (drop (gate + 1) image) broken.ends broken.closed)

  -- once its file was synced it is gone, for good
  pub dropped : IsResting (synced ∷ changes) h payloads gate
  dropped = record {
    ends = broken.ends;
    byte = broken.byte;
    rest = broken.rest;
    content = broken.content;
    closed = broken.closed;
    kept = λ image left. left;
  }

  pub untried_synced : IsBrokenBody (synced ∷ changes) h payloads gate
  untried_synced = resting_broken h payloads gate (synced ∷ changes) dropped

-- what a sync leaves, whatever it answered: a claim on the file's changes with or without it
pub after_sync : {T E : Type 0} (file : ℕ) (old new : List Step) (result : Result T E) (P : List Change → Type 0)
    → Syncs file old new result → P (changes_of file old) → P (synced ∷ changes_of file old) → P (changes_of file new)
after_sync file old new result P syncs before after = elim syncs.either [
  | inl is ↦ subst P (sym (ap (changes_of file) is ∙ own_change file synced old)) after
  | inr is ↦ subst P (sym (ap (changes_of file) is)) before
]

pub synced_changes : (file : ℕ) (old new : List Step) → new ≡ on file synced ∷ old → changes_of file new ≡ synced ∷ changes_of file old
synced_changes file old new is = ap (changes_of file) is ∙ own_change file synced old

-- ---- the gate

module _ (h : Header) (payloads : List (List ℕ)) (payload : List ℕ) (gate next : ℕ) (changes : List Change) (synced : IsSynced changes h payloads payload gate next) where
  synced_reads : reads changes ≡ segment_bytes h payloads ++ synced.byte ∷ (framed payload ++ 0 ∷ synced.tail)
  synced_reads = synced.content ∙ append_assoc (segment_bytes h payloads) (synced.byte ∷ framed payload) (0 ∷ synced.tail)

  pub synced_long : gate + 1 ≤ length (reads changes)
  synced_long = subst (λ (l : List ℕ). gate + 1 ≤ length l) (sym synced_reads) (long_enough gate (segment_bytes h payloads) synced.byte (framed payload ++ 0 ∷ synced.tail) synced.ends.place)

  pub synced_images : (image : List ℕ) → Leaves changes image → HasFrames h payloads gate image
  synced_images image left =
      subst (HasFrames h payloads gate) (sym (synced.kept image left ∙ synced_reads)) (reads_closed h payloads gate synced.byte (framed payload ++ 0 ∷ synced.tail) synced.ends synced.closed)

  synced_content : IsBeforeOrAfter h payloads payload (reads changes)
  synced_content = no_frame h payloads payload gate next synced.ends synced.ends_after synced.byte (framed payload ++ 0 ∷ synced.tail) (reads changes) synced_reads synced.closed

  -- before its gate is tried
  pub synced_untried : IsBrokenBody changes h payloads gate
  synced_untried = record {
    ends = synced.ends;
    byte = synced.byte;
    rest = framed payload ++ 0 ∷ synced.tail;
    content = synced_reads;
    closed = synced.closed;
    front = λ image left.
        ap (take (gate + 1)) (synced.kept image left ∙ synced_reads) ∙ front_of gate (segment_bytes h payloads) synced.byte (framed payload ++ 0 ∷ synced.tail) synced.ends.place;
  }

  -- the gate's write failed and nothing came of it
  pub synced_broken : IsBrokenGate changes h payloads payload gate next
  synced_broken = record {
    ends = synced.ends;
    ends_after = synced.ends_after;
    content = synced_content;
    images = λ image left. subst (IsBeforeOrAfter h payloads payload) (sym (synced.kept image left)) synced_content;
  }

  gate_image : (bytes image : List ℕ) → Leaves (wrote gate 1 bytes ∷ changes) image → (byte : ℕ) × (image ≡ segment_bytes h payloads ++ byte ∷ framed payload ++ 0 ∷ synced.tail)
  gate_image bytes image left =
      let torn : Torn gate 1 (reads changes) image = subst (λ (l : List ℕ). Torn gate 1 l image) (synced.kept left.0 left.1) left.2 in
      torn_gate h payloads payload gate next synced.ends synced.ends_after synced.byte synced.tail (reads changes) image synced.content torn

  gate_stands : (bytes image : List ℕ) → Leaves (wrote gate 1 bytes ∷ changes) image → IsBeforeOrAfter h payloads payload image
  gate_stands bytes image left =
      let found = gate_image bytes image left in
      whole_frame h payloads payload gate next synced.ends synced.ends_after found.0 synced.tail image found.1

  pub gate_images : (bytes image : List ℕ) → Leaves (wrote gate 1 bytes ∷ changes) image → HasFramesOrOneMore h payloads payload gate next image
  gate_images bytes image left = either_frames h payloads payload gate next synced.ends synced.ends_after image (gate_stands bytes image left)

  pub gated : IsGated (wrote gate 1 (open_gate ∷ []) ∷ changes) h payloads payload gate next
  gated = record {
    ends = synced.ends;
    ends_after = synced.ends_after;
    tail = synced.tail;
    content = put_gate h payloads payload gate next synced.ends synced.ends_after open_gate synced.byte synced.tail (reads changes) synced.content;
    images = gate_image (open_gate ∷ []);
  }

  gate_content : (bytes : List ℕ) → length bytes ≤ 1 → IsBeforeOrAfter h payloads payload (put gate bytes (reads changes))
  gate_content [] short =
      let same : put gate [] (reads changes) ≡ reads changes = ap (λ (l : List ℕ). l ++ drop (gate + 0) (reads changes)) (append-nil (take gate (reads changes))) ∙ ap (λ (n : ℕ). take gate (reads changes) ++ drop n (reads changes)) (omega arith) ∙ take-append-drop gate (reads changes) in
      subst (IsBeforeOrAfter h payloads payload) (sym same) synced_content
  gate_content (byte ∷ []) short =
      whole_frame h payloads payload gate next synced.ends synced.ends_after byte synced.tail _ (put_gate h payloads payload gate next synced.ends synced.ends_after byte synced.byte synced.tail (reads changes) synced.content)
  gate_content (byte ∷ other ∷ bytes) short = absurd (omega arith)

  pub gate_broken : (bytes : List ℕ) → length bytes ≤ 1 → IsBrokenGate (wrote gate 1 bytes ∷ changes) h payloads payload gate next
  gate_broken bytes short = record {
    ends = synced.ends;
    ends_after = synced.ends_after;
    content = gate_content bytes short;
    images = gate_stands bytes;
  }

pub gate_during : {T E : Type 0} (file : ℕ) (old new : List Step) (h : Header) (payloads : List (List ℕ)) (payload : List ℕ) (gate next : ℕ) (result : Result T E)
    → IsSynced (changes_of file old) h payloads payload gate next → Writes file gate (open_gate ∷ []) old new result
    → LeavesOnly file old new (HasFramesOrOneMore h payloads payload gate next)
gate_during file old new h payloads payload gate next result stands writes =
    one_call file (wrote gate 1 writes.now) old new (HasFramesOrOneMore h payloads payload gate next) writes.either
    (λ image left. inl (synced_images h payloads payload gate next (changes_of file old) stands image left)) (gate_images h payloads payload gate next (changes_of file old) stands writes.now)

pub gate_fails : {T E : Type 0} (file : ℕ) (old new : List Step) (h : Header) (payloads : List (List ℕ)) (payload : List ℕ) (gate next : ℕ) (result : Result T E)
    → IsSynced (changes_of file old) h payloads payload gate next → Writes file gate (open_gate ∷ []) old new result
    → IsBrokenGate (changes_of file new) h payloads payload gate next
gate_fails file old new h payloads payload gate next result stands writes = elim writes.either [
  | inl is ↦
      subst (λ (changes : List Change). IsBrokenGate changes h payloads payload gate next)
      (sym (ap (changes_of file) is ∙ own_change file (wrote gate 1 writes.now) old))
      (gate_broken h payloads payload gate next (changes_of file old) stands writes.now writes.no_longer)
  | inr is ↦ subst (λ (steps : List Step). IsBrokenGate (changes_of file steps) h payloads payload gate next) (sym is) (synced_broken h payloads payload gate next (changes_of file old) stands)
]

pub gate_done : (file : ℕ) (old new : List Step) (h : Header) (payloads : List (List ℕ)) (payload : List ℕ) (gate next : ℕ)
    → IsSynced (changes_of file old) h payloads payload gate next → new ≡ on file (wrote gate 1 (open_gate ∷ [])) ∷ old
    → IsGated (changes_of file new) h payloads payload gate next
gate_done file old new h payloads payload gate next stands is =
    subst (λ (changes : List Change). IsGated changes h payloads payload gate next) (sym (ap (changes_of file) is ∙ own_change file (wrote gate 1 (open_gate ∷ [])) old))
    (gated h payloads payload gate next (changes_of file old) stands)

-- ---- the gate's sync

module _ (h : Header) (payloads : List (List ℕ)) (payload : List ℕ) (gate next : ℕ) (changes : List Change) (gated : IsGated changes h payloads payload gate next) where
  gated_stands : (image : List ℕ) → Leaves changes image → IsBeforeOrAfter h payloads payload image
  gated_stands image left =
      let found = gated.images image left in
      whole_frame h payloads payload gate next gated.ends gated.ends_after found.0 gated.tail image found.1

  gated_content : IsBeforeOrAfter h payloads payload (reads changes)
  gated_content = whole_frame h payloads payload gate next gated.ends gated.ends_after open_gate gated.tail (reads changes) gated.content

  pub gated_images : (image : List ℕ) → Leaves changes image → HasFramesOrOneMore h payloads payload gate next image
  gated_images image left = either_frames h payloads payload gate next gated.ends gated.ends_after image (gated_stands image left)

  pub gated_synced_images : (image : List ℕ) → Leaves (synced ∷ changes) image → HasFramesOrOneMore h payloads payload gate next image
  gated_synced_images image left = either_frames h payloads payload gate next gated.ends gated.ends_after image (subst (IsBeforeOrAfter h payloads payload) (sym left) gated_content)

  pub settled : IsResting (synced ∷ changes) h (payloads ++ payload ∷ []) next
  settled = record {
    ends = gated.ends_after;
    byte = 0;
    rest = gated.tail;
    content = gated.content ∙ ap (λ (l : List ℕ). l ++ 0 ∷ gated.tail) (sym (segment-push h payloads payload));
    closed = omega arith;
    kept = λ image left. left;
  }

  pub gated_broken : IsBrokenGate changes h payloads payload gate next
  gated_broken = record { ends = gated.ends; ends_after = gated.ends_after; content = gated_content; images = gated_stands }

  pub gated_synced_broken : IsBrokenGate (synced ∷ changes) h payloads payload gate next
  gated_synced_broken = record {
    ends = gated.ends;
    ends_after = gated.ends_after;
    content = gated_content;
    images = λ image left. subst (IsBeforeOrAfter h payloads payload) (sym left) gated_content;
  }

-- what a sync leaves at each moment
pub sync_during : {T E : Type 0} (file : ℕ) (old new : List Step) (P : List ℕ → Type 0) (result : Result T E) → Syncs file old new result
    → ((image : List ℕ) → Leaves (changes_of file old) image → P image) → ((image : List ℕ) → Leaves (synced ∷ changes_of file old) image → P image) → LeavesOnly file old new P
sync_during file old new P result syncs before after = one_call file synced old new P syncs.either before after
