-- What ledgers show once a stream of theirs changed.
use Rattle.std.proofs.Common.{◌≡◌, inl, inr, ℕ, suc, ◌+◌, ◌-◌, ◌==◌, ◌<◌, ◌≤◌, Bool, true, false, cond, List, [], ◌∷◌, ◌++◌, length, map, take, drop, get_or, Result, Ok, Err, OnOk, refl, sym, ◌∙◌, ap, subst, arith}
use Rattle.std.proofs.Math.ListN.{set}
use Rattle.std.proofs.Math.Dec.{leb}
use Rattle.std.proofs.lemmas.Bool.{eqb-true, eqb-false, cases_eq, leb-true}
use Rattle.std.proofs.Math.Seq.{map-set_same}
use Rattle.std.proofs.lemmas.List.{length-map, map-set, get_or-set_same, get_or-set_other, take_all, drop-map}
use Rattle.std.proofs.lemmas.List.{get_or-map as get_mapped}
use Rattle.log_items.specs.Streams as plain
use Rattle.dura_value.specs.Items as items
use Rattle.dura_value.specs.Items.{Identity}
use Rattle.dura_value.specs.declared.identity.Identity as identities
use Rattle.dura_value.specs.declared.identity.Posted.{Posted}
use Rattle.commit_gate.specs.declared.ledger.Stream.{Stream}
use Rattle.commit_gate.specs.Ledgers as ledgers
use Rattle.dura_value.specs.Views.{posted_of, identity_of}
use Rattle.commit_gate.specs.Views.{box_of, whole_box, no_box, boxes_by, nobody, readers_by}
use Rattle.log_items.specs.Readings.{with_reader}

abbrev pub made : List ℕ → (ℕ → ℕ) → (ℕ → plain.Outbox) → ledgers.Ledger
made incarnations nexts boxes = record { incarnations = incarnations; nexts = nexts; boxes = boxes }

-- one of the streams changed, and shows the same
pub box_kept : (view : Stream → plain.Outbox) (boxes : List Stream) (i : ℕ) (s d : Stream) → view s ≡ view (get_or boxes i d) → boxes_by view (set boxes i s) ≡ boxes_by view boxes
box_kept view boxes i s d same = ap (λ (l : List plain.Outbox). λ (t : ℕ). get_or l t no_box) (map-set_same view boxes i s d same)

-- or another
changed_at : (view : Stream → plain.Outbox) (boxes : List Stream) (i : ℕ) (s : Stream) (other : ℕ) (test : Bool) → (i == other) ≡ test → i < length boxes → boxes_by view (set boxes i s) other ≡ cond test (view s) (boxes_by view boxes other)
changed_at view boxes i s other true is low =
    subst (λ (k : ℕ). get_or (map view (set boxes i s)) k no_box ≡ view s) (eqb-true i other is)
    (ap (λ (l : List plain.Outbox). get_or l i no_box) (map-set view boxes i s) ∙ get_or-set_same (map view boxes) i (view s) no_box (omega (arith, length-map boxes view)))
changed_at view boxes i s other false is low =
    ap (λ (l : List plain.Outbox). get_or l other no_box) (map-set view boxes i s) ∙ get_or-set_other (map view boxes) i other (view s) no_box (λ same. eqb-false i other is (sym same))

pub box_changed : (view : Stream → plain.Outbox) (boxes : List Stream) (i : ℕ) (s : Stream) → i < length boxes → boxes_by view (set boxes i s) ≡ (λ (other : ℕ). cond (i == other) (view s) (boxes_by view boxes other))
box_changed view boxes i s low = λ t other. changed_at view boxes i s other (i == other) refl low t

-- what it shows
pub box_here : (view : Stream → plain.Outbox) (boxes : List Stream) (i : ℕ) (d : Stream) → i < length boxes → boxes_by view boxes i ≡ view (get_or boxes i d)
box_here view boxes i d low = get_mapped view boxes i d no_box low

-- all show the same in two ways
maps_same : (v w : Stream → plain.Outbox) (boxes : List Stream) → ((k : ℕ) → k < length boxes → (d : Stream) → v (get_or boxes k d) ≡ w (get_or boxes k d)) → map v boxes ≡ map w boxes
maps_same v w [] each = refl
maps_same v w (s ∷ boxes) each = let first : v s ≡ w s = each 0 (omega arith) s in let rest = maps_same v w boxes (λ k low d. each (suc k) (omega (arith, low)) d) in cc

pub all_same : (v w : Stream → plain.Outbox) (boxes : List Stream) → ((k : ℕ) → k < length boxes → (d : Stream) → v (get_or boxes k d) ≡ w (get_or boxes k d)) → boxes_by v boxes ≡ boxes_by w boxes
all_same v w boxes each = ap (λ (l : List plain.Outbox). λ (t : ℕ). get_or l t no_box) (maps_same v w boxes each)

-- where an answer is Ok, more follows
pub on_ok : {T E : Type 0} {P Q : Type 0} (r : Result T E) → OnOk r P → (P → Q) → OnOk r Q
on_ok (Ok x) p f = f p
on_ok (Err e) p f = tt

-- one message more
sent_at : (boxes : List Stream) (i : ℕ) (s d : Stream) (posted : items.Posted) (other : ℕ) (test : Bool) → (i == other) ≡ test → i < length boxes → d ≡ get_or boxes i d → whole_box s ≡ record (whole_box d) { messages = (whole_box d).messages ++ posted ∷ [] }
    → boxes_by whole_box (set boxes i s) other ≡ cond test (record (boxes_by whole_box boxes other) { messages = (boxes_by whole_box boxes other).messages ++ posted ∷ [] }) (boxes_by whole_box boxes other)
sent_at boxes i s d posted other true is low here grown =
    changed_at whole_box boxes i s other true is low ∙ grown
    ∙ ap (λ (box : plain.Outbox). record box { messages = box.messages ++ posted ∷ [] }) (ap whole_box here ∙ sym (box_here whole_box boxes i d low) ∙ ap (boxes_by whole_box boxes) (eqb-true i other is))
sent_at boxes i s d posted other false is low here grown = changed_at whole_box boxes i s other false is low

pub box_sent : (boxes : List Stream) (i : ℕ) (s d : Stream) (posted : items.Posted) → i < length boxes → d ≡ get_or boxes i d → whole_box s ≡ record (whole_box d) { messages = (whole_box d).messages ++ posted ∷ [] }
    → boxes_by whole_box (set boxes i s) ≡ plain.with_posted (boxes_by whole_box boxes) i posted
box_sent boxes i s d posted low is grown = λ t other. sent_at boxes i s d posted other (i == other) refl low is grown t

-- a stream begins later
abbrev stream : ℕ → List items.Posted → plain.Outbox
stream first messages = record { first = first; messages = messages }

begun_by : (first number : ℕ) (messages : List items.Posted) (test : Bool) → leb number first ≡ test → first < number → cond test (stream first messages) (stream number (drop (number - first) messages)) ≡ stream number (drop (number - first) messages)
begun_by first number messages true is low = let other : number ≤ first = leb-true number first is in absurd (omega arith)
begun_by first number messages false is low = refl

pub begun : (first number now len settled : ℕ) (messages left : List Posted) → first < number → now ≡ number → left ≡ drop (now - first) messages → len ≡ length left → map posted_of messages ≡ map posted_of (take settled messages)
    → stream now (map posted_of (take len left)) ≡ plain.begins_at number (stream first (map posted_of (take settled messages)))
begun first number now len settled messages left low at is long rests =
    let all : take len left ≡ left = take_all len left (omega (arith, long)) in
    let shown : map posted_of (take len left) ≡ drop (number - first) (map posted_of (take settled messages)) =
    ap (map posted_of) (all ∙ is ∙ ap (λ (n : ℕ). drop (n - first) messages) at) ∙ sym (drop-map posted_of (number - first) messages) ∙ ap (drop (number - first)) rests in
    ap (λ (n : ℕ). stream n (map posted_of (take len left))) at ∙ ap (stream number) shown
    ∙ sym (begun_by first number (map posted_of (take settled messages)) (leb number first) refl low)

begun_at : (boxes : List Stream) (i number : ℕ) (s d : Stream) (other : ℕ) (test : Bool) → (i == other) ≡ test → i < length boxes → d ≡ get_or boxes i d → box_of s ≡ plain.begins_at number (box_of d)
    → boxes_by box_of (set boxes i s) other ≡ cond test (plain.begins_at number (boxes_by box_of boxes other)) (boxes_by box_of boxes other)
begun_at boxes i number s d other true is low here later =
    changed_at box_of boxes i s other true is low ∙ later ∙ ap (plain.begins_at number) (ap box_of here ∙ sym (box_here box_of boxes i d low) ∙ ap (boxes_by box_of boxes) (eqb-true i other is))
begun_at boxes i number s d other false is low here later = changed_at box_of boxes i s other false is low

pub box_begun : (boxes : List Stream) (i number : ℕ) (s d : Stream) → i < length boxes → d ≡ get_or boxes i d → box_of s ≡ plain.begins_at number (box_of d) → boxes_by box_of (set boxes i s) ≡ plain.with_first (boxes_by box_of boxes) i number
box_begun boxes i number s d low here later = λ t other. begun_at boxes i number s d other (i == other) refl low here later t

-- nothing is under way in a stream, and in the others neither
pub rests_set : (boxes : List Stream) (i : ℕ) (s : Stream) → i < length boxes → boxes_by whole_box boxes ≡ boxes_by box_of boxes → whole_box s ≡ box_of s → boxes_by whole_box (set boxes i s) ≡ boxes_by box_of (set boxes i s)
rests_set boxes i s low rest here =
    let between : (λ (other : ℕ). cond (i == other) (whole_box s) (boxes_by whole_box boxes other)) ≡ (λ (other : ℕ). cond (i == other) (box_of s) (boxes_by box_of boxes other)) = λ t other. cond (i == other) (here t) (rest t other) in
    box_changed whole_box boxes i s low ∙ between ∙ sym (box_changed box_of boxes i s low)

pub rests_here : (boxes : List Stream) (i : ℕ) (d : Stream) → i < length boxes → boxes_by whole_box boxes ≡ boxes_by box_of boxes → d ≡ get_or boxes i d → whole_box d ≡ box_of d
rests_here boxes i d low rest here =
    ap whole_box here ∙ sym (box_here whole_box boxes i d low) ∙ ap (λ (f : ℕ → plain.Outbox). f i) rest ∙ box_here box_of boxes i d low ∙ sym (ap box_of here)

-- one more of them shows the same in two ways
pub below_set : (v w : Stream → plain.Outbox) (boxes : List Stream) (i : ℕ) (s : Stream) → i < length boxes → v s ≡ w s → ((k : ℕ) → k < i → (d : Stream) → v (get_or boxes k d) ≡ w (get_or boxes k d))
    → (k : ℕ) → k < i + 1 → (d : Stream) → v (get_or (set boxes i s) k d) ≡ w (get_or (set boxes i s) k d)
below_set v w boxes i s low here below k under d = elim (cases_eq k i) [
  | inl is ↦ subst (λ (n : ℕ). v (get_or (set boxes i s) n d) ≡ w (get_or (set boxes i s) n d)) (sym is) (subst (λ (x : Stream). v x ≡ w x) (sym (get_or-set_same boxes i s d low)) here)
  | inr apart ↦ subst (λ (x : Stream). v x ≡ w x) (sym (get_or-set_other boxes i k s d apart)) (below k (omega arith) d)
]

-- another entry took in the last message of a stream
reader_at : (readers : List identities.Identity) (i : ℕ) (reader : identities.Identity) (other : ℕ) (test : Bool) → (i == other) ≡ test → i < length readers → readers_by (set readers i reader) other ≡ cond test (identity_of reader) (readers_by readers other)
reader_at readers i reader other true is low =
    subst (λ (k : ℕ). get_or (map identity_of (set readers i reader)) k nobody ≡ identity_of reader) (eqb-true i other is)
    (ap (λ (l : List Identity). get_or l i nobody) (map-set identity_of readers i reader) ∙ get_or-set_same (map identity_of readers) i (identity_of reader) nobody (omega (arith, length-map readers identity_of)))
reader_at readers i reader other false is low =
    ap (λ (l : List Identity). get_or l other nobody) (map-set identity_of readers i reader) ∙ get_or-set_other (map identity_of readers) i other (identity_of reader) nobody (λ same. eqb-false i other is (sym same))

pub reader_set : (readers : List identities.Identity) (i : ℕ) (reader : identities.Identity) → i < length readers → readers_by (set readers i reader) ≡ with_reader (readers_by readers) i (identity_of reader)
reader_set readers i reader low = λ t other. reader_at readers i reader other (i == other) refl low t
