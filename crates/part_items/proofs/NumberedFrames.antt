-- A frame is read with its numbering exactly where it is read without and its entries are numbered.
use Rattle.std.proofs.Common.{◌≡◌, ℕ, zero, suc, ◌≤◌, List, [], ◌∷◌, Ok, Err, refl, ap, ◌∙◌, sym, subst, eqb-true, leb-true}
use Rattle.dura_value.specs.Items.{Entry}
use Rattle.dura_codec.specs.Fields.{Read, count_at, several_at}
use Rattle.part_items.specs.Grammar.{members_at, entry_items_at, entry_at, frame_at, whole, frame_in}
use Rattle.part_items.specs.Numbered.{Next, behind, IsNumbered, position_at, incarnation_at, next_entry_at, next_entries_at, next_frame_at, next_frame_in}
use Rattle.part_items.specs.Spelling.{spell_frame}
use Rattle.part_items.specs.ItemFits.{FitsFrame}
use Rattle.part_items.proofs.Steps.{ok_is}
use Rattle.part_items.proofs.OnlyItems.{alone_ok}
use Rattle.part_items.proofs.EntryLemmas.{frame_again}
use Rattle.std.proofs.lemmas.Bool.{le-leb, eq-eqb}
use Rattle.dura_value.proofs.Basics.{both_ok, passed_ok}

position_is : (next : Next) (bytes : List ℕ) (read : ℕ × List ℕ) → position_at next bytes ≡ Ok read → (count_at bytes ≡ Ok read) × (read.0 ≡ next.position)
unfolding position_at
position_is next bytes read h =
    let s = both_ok (count_at bytes) _ read h in
    let p = passed_ok _ (Ok s.0) _ read s.2 in
    (s.1 ∙ p.1, subst (λ (r : ℕ × List ℕ). r.0 ≡ next.position) (ok_is s.0 read p.1) (eqb-true s.0.0 next.position p.0))

incarnation_is : (next : Next) (bytes : List ℕ) (read : ℕ × List ℕ) → incarnation_at next bytes ≡ Ok read → (count_at bytes ≡ Ok read) × (next.incarnation ≤ read.0)
unfolding incarnation_at
incarnation_is next bytes read h =
    let s = both_ok (count_at bytes) _ read h in
    let p = passed_ok _ (Ok s.0) _ read s.2 in
    (s.1 ∙ p.1, subst (λ (r : ℕ × List ℕ). next.incarnation ≤ r.0) (ok_is s.0 read p.1) (leb-true next.incarnation s.0.0 p.0))

position_read : (next : Next) (bytes : List ℕ) (read : ℕ × List ℕ) → count_at bytes ≡ Ok read → read.0 ≡ next.position → position_at next bytes ≡ Ok read
unfolding position_at
position_read next bytes read h here = rw (h, eq-eqb read.0 next.position here) refl

incarnation_read : (next : Next) (bytes : List ℕ) (read : ℕ × List ℕ) → count_at bytes ≡ Ok read → next.incarnation ≤ read.0 → incarnation_at next bytes ≡ Ok read
unfolding incarnation_at
incarnation_read next bytes read h within = rw (h, le-leb next.incarnation read.0 within) refl

-- an entry that stands where the log goes on
pub record StandsNext (next : Next) (bytes : List ℕ) (read : Entry × List ℕ) : Type 0 where
  pub reads : entry_at bytes ≡ Ok read
  position : read.0.position ≡ next.position
  incarnation : next.incarnation ≤ read.0.incarnation

pub entry_is : (next : Next) (bytes : List ℕ) (read : Entry × List ℕ) → next_entry_at next bytes ≡ Ok read → StandsNext next bytes read
unfolding next_entry_at entry_at
entry_is next bytes read h =
    let place = both_ok (position_at next bytes) _ read h in
    let incarnation = both_ok (incarnation_at next place.0.1) _ read place.2 in
    let items = both_ok (entry_items_at incarnation.0.1) _ read incarnation.2 in
    let at = position_is next bytes place.0 place.1 in
    let of = incarnation_is next place.0.1 incarnation.0 incarnation.1 in
    let same : (record { position = place.0.0; incarnation = incarnation.0.0; items = items.0.0 }, items.0.1) ≡ read = ok_is _ read items.2 in
    record {
      reads = rw (at.0, of.0, items.1) items.2;
      position = subst (λ (r : Entry × List ℕ). r.0.position ≡ next.position) same at.1;
      incarnation = subst (λ (r : Entry × List ℕ). next.incarnation ≤ r.0.incarnation) same of.1;
    }

entry_read : (next : Next) (bytes : List ℕ) (read : Entry × List ℕ) → StandsNext next bytes read → next_entry_at next bytes ≡ Ok read
unfolding next_entry_at entry_at
entry_read next bytes read stands =
    let place = both_ok (count_at bytes) _ read stands.reads in
    let incarnation = both_ok (count_at place.0.1) _ read place.2 in
    let items = both_ok (entry_items_at incarnation.0.1) _ read incarnation.2 in
    let same : (record { position = place.0.0; incarnation = incarnation.0.0; items = items.0.0 }, items.0.1) ≡ read = ok_is _ read items.2 in
    let here : place.0.0 ≡ next.position = ap (λ (r : Entry × List ℕ). r.0.position) same ∙ stands.position in
    let within : next.incarnation ≤ incarnation.0.0 = subst (λ (r : Entry × List ℕ). next.incarnation ≤ r.0.incarnation) (sym same) stands.incarnation in
    rw (position_read next bytes place.0 place.1 here, incarnation_read next place.0.1 incarnation.0 incarnation.1 within, items.1) items.2

entries_are : (next : Next) (count : ℕ) (bytes : List ℕ) (read : List Entry × List ℕ) → next_entries_at next count bytes ≡ Ok read → (several_at entry_at count bytes ≡ Ok read) × IsNumbered next read.0
unfolding next_entries_at several_at
entries_are next zero bytes read h = (h, subst (λ (r : List Entry × List ℕ). IsNumbered next r.0) (ok_is ([], bytes) read h) tt)
entries_are next (suc count) bytes read h =
    let first = both_ok (next_entry_at next bytes) _ read h in
    let more = both_ok (next_entries_at (behind first.0.0) count first.0.1) _ read first.2 in
    let stands = entry_is next bytes first.0 first.1 in
    let are = entries_are (behind first.0.0) count first.0.1 more.0 more.1 in
    let same : (first.0.0 ∷ more.0.0, more.0.1) ≡ read = ok_is _ read more.2 in
    (rw (stands.reads, are.0) more.2, subst (λ (r : List Entry × List ℕ). IsNumbered next r.0) same (stands.position, stands.incarnation, are.1))

entries_read : (next : Next) (count : ℕ) (bytes : List ℕ) (read : List Entry × List ℕ) → several_at entry_at count bytes ≡ Ok read → IsNumbered next read.0 → next_entries_at next count bytes ≡ Ok read
unfolding next_entries_at several_at
entries_read next zero bytes read h numbered = h
entries_read next (suc count) bytes read h numbered =
    let first = both_ok (entry_at bytes) _ read h in
    let more = both_ok (several_at entry_at count first.0.1) _ read first.2 in
    let same : (first.0.0 ∷ more.0.0, more.0.1) ≡ read = ok_is _ read more.2 in
    let each : IsNumbered next (first.0.0 ∷ more.0.0) = subst (λ (r : List Entry × List ℕ). IsNumbered next r.0) (sym same) numbered in
    let one = entry_read next bytes first.0 (record { reads = first.1; position = each.0; incarnation = each.1 }) in
    rw (one, entries_read (behind first.0.0) count first.0.1 more.0 more.1 each.2) more.2

frame_is : (next : Next) (bytes : List ℕ) (read : List Entry × List ℕ) → next_frame_at next bytes ≡ Ok read → (frame_at bytes ≡ Ok read) × IsNumbered next read.0
unfolding next_frame_at frame_at
frame_is next bytes read h =
    let count = both_ok (members_at bytes) _ read h in
    let entries = both_ok (next_entries_at next count.0.0 count.0.1) _ read count.2 in
    let are = entries_are next count.0.0 count.0.1 entries.0 entries.1 in
    (rw (count.1, are.0) entries.2, subst (IsNumbered next) (alone_ok entries.0 read entries.2).1 are.1)

frame_read : (next : Next) (bytes : List ℕ) (read : List Entry × List ℕ) → frame_at bytes ≡ Ok read → IsNumbered next read.0 → next_frame_at next bytes ≡ Ok read
unfolding next_frame_at frame_at
frame_read next bytes read h numbered =
    let count = both_ok (members_at bytes) _ read h in
    let entries = both_ok (several_at entry_at count.0.0 count.0.1) _ read count.2 in
    let are : IsNumbered next entries.0.0 = subst (IsNumbered next) (sym (alone_ok entries.0 read entries.2).1) numbered in
    rw (count.1, entries_read next count.0.0 count.0.1 entries.0 entries.1 are) entries.2

-- what was read of all of the bytes, and what was left
whole_is : {X : Type 0} (bytes : List ℕ) (r : Read X) (x : X) → whole bytes r ≡ Ok x → (read : X × List ℕ) × (r ≡ Ok read) × (read.0 ≡ x)
whole_is bytes (Ok read) x h = (read, refl, ok_is read.0 x h)
whole_is bytes (Err left) x h = absurd (cc h)

whole_read : {X : Type 0} (bytes : List ℕ) (r : Read X) (read : X × List ℕ) → r ≡ Ok read → whole bytes r ≡ Ok read.0
whole_read bytes r read h = rw h refl

pub numbered_reads : (next : Next) (bytes : List ℕ) (entries : List Entry) → next_frame_in next bytes ≡ Ok entries → frame_in bytes ≡ Ok entries
numbered_reads next bytes entries h =
    let w = whole_is bytes (next_frame_at next bytes) entries h in
    whole_read bytes (frame_at bytes) w.0 (frame_is next bytes w.0 w.1).0 ∙ ap (λ (read : List Entry). Ok read) w.2

pub numbered_is : (next : Next) (bytes : List ℕ) (entries : List Entry) → next_frame_in next bytes ≡ Ok entries → IsNumbered next entries
numbered_is next bytes entries h =
    let w = whole_is bytes (next_frame_at next bytes) entries h in
    subst (IsNumbered next) w.2 (frame_is next bytes w.0 w.1).1

pub numbered_only : (next : Next) (bytes : List ℕ) (entries : List Entry) → frame_in bytes ≡ Ok entries → IsNumbered next entries → next_frame_in next bytes ≡ Ok entries
numbered_only next bytes entries h numbered =
    let w = whole_is bytes (frame_at bytes) entries h in
    whole_read bytes (next_frame_at next bytes) w.0 (frame_read next bytes w.0 w.1 (subst (IsNumbered next) (sym w.2) numbered)) ∙ ap (λ (read : List Entry). Ok read) w.2

pub numbered_again : (next : Next) (entries : List Entry) → IsNumbered next entries → FitsFrame entries → next_frame_in next (spell_frame entries) ≡ Ok entries
numbered_again next entries numbered fits = numbered_only next (spell_frame entries) entries (frame_again entries fits) numbered
