-- What each step of formatting leaves.
use Rattle.std.proofs.Common.{◌≡◌, ◌≢◌, ◌⊎◌, inl, inr, ⊎_elim, ℕ, ◌+◌, ◌≤◌, true, false, cond, List, [], ◌∷◌, ◌++◌, length, take, drop, Result, refl, sym, ap, subst, ◌∙◌, append_assoc, arith}
use Rattle.std.proofs.lemmas.Bool.{cases_eq, ne_eqb}
use Rattle.std.proofs.lemmas.List.{append-nil, take-append-drop}
use Rattle.site_model.specs.History.{Change, Step, on, wrote, synced, put, reads, changes_of, content_of, Torn, Leaves, IsKept}
use Rattle.site_model.specs.Calls.{Syncs}
use Rattle.site_model.specs.Moments.{LeavesOnly}
use Rattle.site_model.proofs.Paths.{own_change, one_call, stays, leaves_then, leaves_weaker}
use Rattle.site_model.proofs.Images.{torn_front, torn_within}
use Rattle.commit_log.specs.declared.header.Header.{Header}
use Rattle.commit_log.specs.Segment.{fresh, told, segment_at, reading_of, open_gate, header_bytes, segment_bytes, first_gate, FitsHeader}
use Rattle.commit_log.specs.States.{EndsAt, IsResting, IsClosed, IsClosedContent, IsHeaded, IsClosing, IsOpening, IsFormatting, HasFrames}
use Rattle.commit_log.specs.Writing.{WritesSafely}
use Rattle.commit_log.proofs.Steps.{synced_changes}
use Rattle.commit_log.proofs.Written.{reads_closed, length-segment}

-- a write and its sync: what holds of each image of the three histories that there may be holds at each moment
pub safe_during : {T E : Type 0} (file at : ℕ) (bytes : List ℕ) (old new : List Step) (result : Result T E) (P : List ℕ → Type 0) → WritesSafely file at bytes old new result
    → ((image : List ℕ) → Leaves (changes_of file old) image → P image)
    → ((now image : List ℕ) → Leaves (wrote at (length bytes) now ∷ changes_of file old) image → P image)
    → ((now : List ℕ) → length now ≤ length bytes → P (put at now (content_of file old)))
    → LeavesOnly file old new P
safe_during file at bytes old new result P writes before torn whole = elim writes.either [
  | inl is ↦ subst (λ (steps : List Step). LeavesOnly file old steps P) (sym is) (stays file old P before)
  | inr more ↦ elim more [
    | inl is ↦ one_call file change old new P (inl is) before (torn writes.now)
    | inr is ↦
        let first = one_call file change old (on file change ∷ old) P (inl refl) before (torn writes.now) in
        let own : changes_of file (on file change ∷ old) ≡ change ∷ changes_of file old = own_change file change old in
        let second = one_call file synced (on file change ∷ old) (on file synced ∷ on file change ∷ old) P (inl refl)
        (λ image left. torn writes.now image (subst (λ (changes : List Change). Leaves changes image) own left))
        (λ image left. subst P (sym (left ∙ ap reads own)) (whole writes.now writes.no_longer)) in
        subst (λ (steps : List Step). LeavesOnly file old steps P) (sym is) (leaves_then first second)
  ]
]
  where
    change : Change
    change = wrote at (length bytes) writes.now

-- the changes of a write that was made safe
pub safe_changes : (file at : ℕ) (bytes : List ℕ) (old new : List Step) → new ≡ on file synced ∷ on file (wrote at (length bytes) bytes) ∷ old
    → changes_of file new ≡ synced ∷ wrote at (length bytes) bytes ∷ changes_of file old
safe_changes file at bytes old new is =
    ap (changes_of file) is ∙ own_change file synced (on file (wrote at (length bytes) bytes) ∷ old)
    ∙ ap (λ (changes : List Change). synced ∷ changes) (own_change file (wrote at (length bytes) bytes) old)

-- ---- what is fresh

pub closed_fresh : (byte : ℕ) (rest : List ℕ) → byte ≢ open_gate → reading_of (byte ∷ rest) ≡ fresh
closed_fresh byte [] closed = refl
closed_fresh byte (second ∷ rest) closed = ap (λ b. cond b (told (segment_at (second ∷ rest))) fresh) (ne_eqb byte open_gate closed)

pub short_fresh : (bytes : List ℕ) → length bytes ≤ 1 → reading_of bytes ≡ fresh
short_fresh [] short = refl
short_fresh (byte ∷ []) short = refl
short_fresh (byte ∷ second ∷ bytes) short = absurd (omega arith)

-- a list of at least one, by its first
first_and_rest : (byte : ℕ) (rest image : List ℕ) → length image ≡ length (byte ∷ rest) → drop 1 image ≡ rest → (other : ℕ) × (image ≡ other ∷ rest)
first_and_rest byte rest [] long behind = absurd (omega arith)
first_and_rest byte rest (other ∷ image) long behind = (other, ap (λ (l : List ℕ). other ∷ l) behind)

-- a write of the first byte changes the first byte alone
torn_first : (byte : ℕ) (rest image : List ℕ) → Torn 0 1 (byte ∷ rest) image → (other : ℕ) × (image ≡ other ∷ rest)
torn_first byte rest image torn =
    let same = torn_within 0 1 (byte ∷ rest) image (omega arith) torn in
    first_and_rest byte rest image same.0 same.1

-- ---- closing the first byte

closing_first : (byte : ℕ) (rest : List ℕ) (other : ℕ) (image : List ℕ) → (rest ≡ []) ⊎ (byte ≡ open_gate) → image ≡ other ∷ rest → IsClosing (byte ∷ rest) image
closing_first byte rest other image (inl short) is =
    inr (ap reading_of (is ∙ ap (λ (l : List ℕ). other ∷ l) short))
closing_first byte rest other image (inr is_open) is = elim (cases_eq other open_gate) [
  | inl same ↦ inl (ap reading_of (is ∙ ap (λ (b : ℕ). b ∷ rest) (same ∙ sym is_open)))
  | inr closed ↦ inr (ap reading_of is ∙ closed_fresh other rest closed)
]

closing_torn : (content image : List ℕ) → IsClosedContent content false → Torn 0 1 content image → IsClosing content image
closing_torn content image (inl none) torn =
    inr (short_fresh image (omega (arith, torn.no_longer, ap length none)))
closing_torn content image (inr (byte, rest, split, why)) torn =
    let found = torn_first byte rest image (subst (λ (l : List ℕ). Torn 0 1 l image) split torn) in
    subst (λ (l : List ℕ). IsClosing l image) (sym split) (closing_first byte rest found.0 image why found.1)

closing_put : (content now : List ℕ) → IsClosedContent content false → length now ≤ 1 → IsClosing content (put 0 now content)
closing_put content [] unclosed short = inl refl
closing_put content (other ∷ []) (inl none) short = inr (ap (λ (l : List ℕ). reading_of (other ∷ drop 1 l)) none)
closing_put content (other ∷ []) (inr (byte, rest, split, why)) short =
    subst (λ (l : List ℕ). IsClosing l (put 0 (other ∷ []) l)) (sym split) (closing_first byte rest other (other ∷ rest) why refl)
closing_put content (other ∷ second ∷ now) unclosed short = absurd (omega arith)

pub close_during : {T E : Type 0} (file : ℕ) (old new : List Step) (result : Result T E) → IsKept (changes_of file old) → IsClosedContent (content_of file old) false
    → WritesSafely file 0 (0 ∷ []) old new result → LeavesOnly file old new (IsClosing (content_of file old))
close_during file old new result kept unclosed writes =
    safe_during file 0 (0 ∷ []) old new result (IsClosing (content_of file old)) writes
    (λ image left. inl (ap reading_of (kept image left)))
    (λ now image left. closing_torn (content_of file old) image unclosed (subst (λ (l : List ℕ). Torn 0 1 l image) (kept left.0 left.1) left.2))
    (λ now short. closing_put (content_of file old) now unclosed short)

pub close_done : (file : ℕ) (old new : List Step) → new ≡ on file synced ∷ on file (wrote 0 1 (0 ∷ [])) ∷ old → IsClosed (changes_of file new)
close_done file old new is =
    subst IsClosed (sym (safe_changes file 0 (0 ∷ []) old new is)) (record {
      byte = 0;
      rest = drop 1 (content_of file old);
      content = refl;
      closed = omega arith;
      kept = λ image left. left;
    })

-- a closed first byte, synced again
pub closed_during : {T E : Type 0} (file : ℕ) (old new : List Step) (result : Result T E) → IsKept (changes_of file old)
    → Syncs file old new result → LeavesOnly file old new (IsClosing (content_of file old))
closed_during file old new result kept syncs =
    one_call file synced old new (IsClosing (content_of file old)) syncs.either
    (λ image left. inl (ap reading_of (kept image left)))
    (λ image left. inl (ap reading_of left))

pub closed_done : (file : ℕ) (old new : List Step) → IsClosedContent (content_of file old) true → new ≡ on file synced ∷ old → IsClosed (changes_of file new)
closed_done file old new (byte, rest, split, closed, long) is =
    subst IsClosed (sym (synced_changes file old new is)) (record { byte = byte; rest = rest; content = split; closed = closed; kept = λ image left. left })

pub closed_long : (file : ℕ) (old new : List Step) → IsClosedContent (content_of file old) true → new ≡ on file synced ∷ old → 1 ≤ length (content_of file new)
closed_long file old new (byte, rest, split, closed, long) is =
    subst (λ (changes : List Change). 1 ≤ length (reads changes)) (sym (synced_changes file old new is)) (omega (arith, long))

-- ---- the header behind a closed first byte

module _ (file : ℕ) (old : List Step) (stands : IsClosed (changes_of file old)) where
  long : 1 ≤ length (content_of file old)
  long = omega (arith, ap length stands.content)

  front : take 1 (content_of file old) ≡ stands.byte ∷ []
  front = ap (λ (l : List ℕ). take 1 l) stands.content

  header_put : (now : List ℕ) → put 1 now (content_of file old) ≡ stands.byte ∷ (now ++ drop (1 + length now) (content_of file old))
  header_put now = ap (λ (l : List ℕ). l ++ now ++ drop (1 + length now) (content_of file old)) front

  first_of : (image : List ℕ) → take 1 image ≡ stands.byte ∷ [] → reading_of image ≡ fresh
  first_of image is =
      ap reading_of (sym (take-append-drop 1 image) ∙ ap (λ (l : List ℕ). l ++ drop 1 image) is) ∙ closed_fresh stands.byte (drop 1 image) stands.closed

  pub header_during : {T E : Type 0} (bytes : List ℕ) (new : List Step) (result : Result T E) → WritesSafely file 1 bytes old new result → LeavesOnly file old new (λ image. reading_of image ≡ fresh)
  header_during bytes new result writes =
      safe_during file 1 bytes old new result (λ image. reading_of image ≡ fresh) writes
      (λ image left. ap reading_of (stands.kept image left ∙ stands.content) ∙ closed_fresh stands.byte stands.rest stands.closed)
      (λ now image left.
      let torn : Torn 1 (length bytes) (content_of file old) image = subst (λ (l : List ℕ). Torn 1 (length bytes) l image) (stands.kept left.0 left.1) left.2 in
      first_of image (torn_front 1 1 (length bytes) (content_of file old) image (omega arith) long torn ∙ front))
      (λ now short. ap reading_of (header_put now) ∙ closed_fresh stands.byte (now ++ drop (1 + length now) (content_of file old)) stands.closed)

  pub header_done : (h : Header) (bytes : List ℕ) (new : List Step) → FitsHeader h → bytes ≡ header_bytes h ++ 0 ∷ [] → new ≡ on file synced ∷ on file (wrote 1 (length bytes) bytes) ∷ old → IsHeaded (changes_of file new) h
  header_done h bytes new fits whole is =
      let behind = drop (1 + length bytes) (content_of file old) in
      subst (λ (changes : List Change). IsHeaded changes h) (sym (safe_changes file 1 bytes old new is)) (record {
        byte = stands.byte;
        rest = behind;
        content = header_put bytes ∙ ap (λ (l : List ℕ). stands.byte ∷ (l ++ behind)) whole ∙ ap (λ (l : List ℕ). stands.byte ∷ l) (append_assoc (header_bytes h) (0 ∷ []) behind);
        fits = fits;
        closed = stands.closed;
        kept = λ image left. left;
      })

-- ---- opening the first byte before a header

no_frames : (h : Header) → FitsHeader h → EndsAt h [] first_gate
no_frames h fits = record { place = sym (length-segment h []); below = omega arith; fits = fits }

headed_segment : (h : Header) (rest : List ℕ) → open_gate ∷ (header_bytes h ++ 0 ∷ rest) ≡ segment_bytes h [] ++ 0 ∷ rest
headed_segment h rest = ap (λ (l : List ℕ). l ++ 0 ∷ rest) (sym (append-nil (open_gate ∷ header_bytes h)))

opening_first : (h : Header) (rest : List ℕ) (other : ℕ) (image : List ℕ) → FitsHeader h → image ≡ other ∷ (header_bytes h ++ 0 ∷ rest) → IsOpening h image
opening_first h rest other image fits is = elim (cases_eq other open_gate) [
  | inl is_open ↦
      let whole : image ≡ segment_bytes h [] ++ 0 ∷ rest = is ∙ ap (λ (b : ℕ). b ∷ (header_bytes h ++ 0 ∷ rest)) is_open ∙ headed_segment h rest in
      inr (subst (HasFrames h [] first_gate) (sym whole) (reads_closed h [] first_gate 0 rest (no_frames h fits) (omega arith)))
  | inr closed ↦ inl (ap reading_of is ∙ closed_fresh other (header_bytes h ++ 0 ∷ rest) closed)
]

opening_put : (h : Header) (byte : ℕ) (rest content now : List ℕ) → FitsHeader h → content ≡ byte ∷ (header_bytes h ++ 0 ∷ rest) → length now ≤ 1 → IsOpening h (put 0 now content)
opening_put h byte rest content [] fits is short = opening_first h rest byte content fits is
opening_put h byte rest content (other ∷ []) fits is short =
    opening_first h rest other (put 0 (other ∷ []) content) fits (ap (λ (l : List ℕ). other ∷ drop 1 l) is)
opening_put h byte rest content (other ∷ second ∷ now) fits is short = absurd (omega arith)

pub open_during : {T E : Type 0} (file : ℕ) (old new : List Step) (h : Header) (result : Result T E) → IsHeaded (changes_of file old) h
    → WritesSafely file 0 (open_gate ∷ []) old new result → LeavesOnly file old new (IsOpening h)
open_during file old new h result stands writes =
    safe_during file 0 (open_gate ∷ []) old new result (IsOpening h) writes
    (λ image left. opening_first h stands.rest stands.byte image stands.fits (stands.kept image left ∙ stands.content))
    (λ now image left.
    let torn : Torn 0 1 (content_of file old) image = subst (λ (l : List ℕ). Torn 0 1 l image) (stands.kept left.0 left.1) left.2 in
    let found = torn_first stands.byte (header_bytes h ++ 0 ∷ stands.rest) image (subst (λ (l : List ℕ). Torn 0 1 l image) stands.content torn) in
    opening_first h stands.rest found.0 image stands.fits found.1)
    (λ now short. opening_put h stands.byte stands.rest (content_of file old) now stands.fits stands.content short)

pub open_done : (file : ℕ) (old new : List Step) (h : Header) → IsHeaded (changes_of file old) h → new ≡ on file synced ∷ on file (wrote 0 1 (open_gate ∷ [])) ∷ old
    → IsResting (changes_of file new) h [] first_gate
open_done file old new h stands is =
    subst (λ (changes : List Change). IsResting changes h [] first_gate) (sym (safe_changes file 0 (open_gate ∷ []) old new is)) (record {
      ends = no_frames h stands.fits;
      byte = 0;
      rest = stands.rest;
      content = ap (λ (l : List ℕ). open_gate ∷ drop 1 l) stands.content ∙ headed_segment h stands.rest;
      closed = omega arith;
      kept = λ image left. left;
    })

-- ---- all of it

module _ (file : ℕ) (content : List ℕ) (h : Header) where
  pub format_closes : {old new : List Step} → LeavesOnly file old new (IsClosing content) → LeavesOnly file old new (IsFormatting content h)
  format_closes = leaves_weaker (λ image. ⊎_elim inl (λ none. inr (inl none)))

  pub format_heads : {old mid new : List Step} → LeavesOnly file old mid (IsClosing content) → LeavesOnly file mid new (λ image. reading_of image ≡ fresh) → LeavesOnly file old new (IsFormatting content h)
  format_heads closes heads = leaves_then (format_closes closes) (leaves_weaker (λ image none. inr (inl none)) heads)

  pub format_opens : {old mid later new : List Step} → LeavesOnly file old mid (IsClosing content) → LeavesOnly file mid later (λ image. reading_of image ≡ fresh) → LeavesOnly file later new (IsOpening h) → LeavesOnly file old new (IsFormatting content h)
  format_opens closes heads opens = leaves_then (format_heads closes heads) (leaves_weaker (λ image. inr) opens)

-- a file of at most one byte
pub short_content : (content : List ℕ) → length content ≤ 1 → IsClosedContent content false
short_content [] short = inl refl
short_content (byte ∷ []) short = inr (byte, [], refl, inl refl)
short_content (byte ∷ second ∷ content) short = absurd (omega arith)

-- where nothing was written
pub closing_stays : (file : ℕ) (old new : List Step) → new ≡ old → IsKept (changes_of file old) → LeavesOnly file old new (IsClosing (content_of file old))
closing_stays file old new same kept =
    subst (λ (steps : List Step). LeavesOnly file old steps (IsClosing (content_of file old))) (sym same)
    (stays file old (IsClosing (content_of file old)) (λ image left. inl (ap reading_of (kept image left))))
