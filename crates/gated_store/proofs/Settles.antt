-- What settling makes of a ledger.
use Rattle.std.proofs.Common.{◌≡◌, ℕ, suc, ◌+◌, ◌<◌, ◌≤◌, List, [], ◌∷◌, ◌++◌, length, take, drop, get_or, refl, sym, ◌∙◌, ap, subst, arith, length-append}
use Rattle.std.specs.List.{All}
use Rattle.std.proofs.lemmas.List.{append-nil}
use Rattle.std.proofs.Math.Seq.{drop-append_seam}
use Rattle.std.proofs.lemmas.Grind.{flat_map-append}
use Rattle.std.proofs.lemmas.List.Concat.{flat_map-cons}
use Rattle.dura_value.specs.Items.{Identity, Item, Entry}
use Rattle.commit_gate.proofs.Going.{after_append, all_front, all_back}
use Rattle.commit_gate.proofs.Tested.{take_more, split_at}
use Rattle.commit_gate.specs.Ledgers.{Ledger, after_items}
use Rattle.log_items.specs.Plain.{items_of}
use Rattle.hub_store.specs.declared.trail.Settled as settled_rows
use Rattle.hub_store.specs.Plain.{settled_of, trail_of}
use Rattle.hub_store.specs.Trail.{Settled, settling}
use Rattle.gated_store.specs.Settled.{items_settled, readers_settled}
use Rattle.log_items.specs.Readings.{readers_behind, readers_after}
use Rattle.gated_store.specs.Causal.{identity_of}
use Rattle.log_items.specs.Entries.{items_in, identity_at}

more : (settled : List settled_rows.Settled) (i : ℕ) (one : settled_rows.Settled) → i < length settled → one ≡ get_or settled i one → items_settled (trail_of (take (i + 1) settled)) ≡ items_settled (trail_of (take i settled)) ++ items_of one.items
more settled i one low is =
    ap items_settled (take_more settled_of settled i one low is) ∙ flat_map-append (λ (s : Settled). s.entry.items) (trail_of (take i settled)) (settled_of one ∷ [])
    ∙ ap (λ (l : List Item). items_settled (trail_of (take i settled)) ++ l) (flat_map-cons (λ (s : Settled). s.entry.items) (settled_of one) [] ∙ append-nil (items_of one.items))

pub after_one : (settled : List settled_rows.Settled) (i : ℕ) (one : settled_rows.Settled) (ledger : Ledger) → i < length settled → one ≡ get_or settled i one → after_items (items_of one.items) (after_items (items_settled (trail_of (take i settled))) ledger) ≡ after_items (items_settled (trail_of (take (i + 1) settled))) ledger
after_one settled i one ledger low is = sym (ap (λ (l : List Item). after_items l ledger) (more settled i one low is) ∙ after_append (items_settled (trail_of (take i settled))) (items_of one.items) ledger)

pub one_here : (P : Item → Type 0) (settled : List settled_rows.Settled) (i : ℕ) (one : settled_rows.Settled) → i < length settled → one ≡ get_or settled i one → All P (items_settled (trail_of settled)) → All P (items_of one.items)
one_here P settled i one low is all =
    let front = trail_of (take i settled) in
    let rest = trail_of (drop (suc i) settled) in
    let split : items_settled (trail_of settled) ≡ items_settled front ++ (items_of one.items ++ items_settled rest) =
    ap items_settled (split_at settled_of settled i one low is) ∙ flat_map-append (λ (s : Settled). s.entry.items) front (settled_of one ∷ rest) ∙ ap (λ (l : List Item). items_settled front ++ l) (flat_map-cons (λ (s : Settled). s.entry.items) (settled_of one) rest) in
    all_front P (items_of one.items) (items_settled rest) (all_back P (items_settled front) (items_of one.items ++ items_settled rest) (subst (All P) split all))

-- the items of a frame once it is settled
pub items_of_frame : (p at : ℕ) (going : List Entry) → items_settled (settling p at going) ≡ items_in going
items_of_frame p at [] = refl
items_of_frame p at (entry ∷ going) =
    flat_map-cons (λ (s : Settled). s.entry.items) (record { partition = p; entry = entry; at = at }) (settling p at going)
    ∙ ap (λ (l : List Item). entry.items ++ l) (items_of_frame p at going) ∙ sym (flat_map-cons (λ (e : Entry). e.items) entry going)

-- what was settled behind the rest is the frame
is_behind : (old new : List Settled) (p at : ℕ) (going : List Entry) (n : ℕ) (list : List settled_rows.Settled) → new ≡ old ++ settling p at going → n ≡ length old → trail_of list ≡ drop n new → trail_of list ≡ settling p at going
is_behind old new p at going n list is long shown = shown ∙ ap (drop n) is ∙ ap (λ (k : ℕ). drop k (old ++ settling p at going)) long ∙ drop-append_seam old (settling p at going)

pub frame_behind : (old new : List Settled) (p at : ℕ) (going : List Entry) (n : ℕ) (list : List settled_rows.Settled) → new ≡ old ++ settling p at going → n ≡ length old → trail_of list ≡ drop n new → items_settled (trail_of list) ≡ items_in going
frame_behind old new p at going n list is long shown = ap items_settled (is_behind old new p at going n list is long shown) ∙ items_of_frame p at going

readers_of_frame : (p at : ℕ) (readers : ℕ → Identity) (going : List Entry) → readers_settled readers (settling p at going) ≡ readers_behind p readers going
readers_of_frame p at readers [] = refl
readers_of_frame p at readers (entry ∷ going) = readers_of_frame p at (readers_after (identity_at p entry) readers entry.items) going

pub read_behind : (old new : List Settled) (p at : ℕ) (going : List Entry) (n : ℕ) (list : List settled_rows.Settled) (readers : ℕ → Identity) → new ≡ old ++ settling p at going → n ≡ length old → trail_of list ≡ drop n new → readers_settled readers (trail_of list) ≡ readers_behind p readers going
read_behind old new p at going n list readers is long shown = ap (readers_settled readers) (is_behind old new p at going n list is long shown) ∙ readers_of_frame p at readers going

readers_append : (readers : ℕ → Identity) (a b : List Settled) → readers_settled readers (a ++ b) ≡ readers_settled (readers_settled readers a) b
readers_append readers [] b = refl
readers_append readers (one ∷ a) b = readers_append (readers_after (identity_of one) readers one.entry.items) a b

pub read_one : (settled : List settled_rows.Settled) (i : ℕ) (one : settled_rows.Settled) (readers : ℕ → Identity) → i < length settled → one ≡ get_or settled i one
    → readers_after (identity_of (settled_of one)) (readers_settled readers (trail_of (take i settled))) (items_of one.items) ≡ readers_settled readers (trail_of (take (i + 1) settled))
read_one settled i one readers low is = sym (ap (readers_settled readers) (take_more settled_of settled i one low is) ∙ readers_append readers (trail_of (take i settled)) (settled_of one ∷ []))

pub no_shorter : (old new more : List Settled) (n : ℕ) → new ≡ old ++ more → n ≡ length old → n ≤ length new
no_shorter old new more n is long = omega (arith, long, ap length is, length-append old more)
