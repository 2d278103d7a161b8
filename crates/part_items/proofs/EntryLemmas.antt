-- Entries are read again, and frames.
use Rattle.std.proofs.Common.{◌≡◌, ℕ, ◌-◌, ◌<◌, ◌≤◌, List, [], ◌∷◌, ◌++◌, length, Ok, Err, refl, sym, ap, ◌∙◌, append_assoc, append-nil, length-append, arith}
use Rattle.std.specs.Int.{w16, w64, to_be_bytes}
use Rattle.std.specs.List.{All, flat_map}
use Rattle.dura_value.specs.Items.{Item, Entry}
use Rattle.dura_value.specs.Reading.{◌>>=◌}
use Rattle.dura_codec.specs.Fields.{Read, several_at}
use Rattle.part_items.specs.Grammar.{item_at, members_at, entry_items_at, entry_at, alone, frame_at, frame_in}
use Rattle.part_items.specs.Spelling.{spell_item, spell_heading, spell_entry, spell_frame}
use Rattle.part_items.proofs.Numbers.{is_below, number_again_2, count_again}
use Rattle.part_items.proofs.Values.{several_again}
use Rattle.part_items.proofs.Prefixes.{apart}
use Rattle.part_items.specs.ItemFits.{FitsItem, FitsEntry, FitsFrame}
use Rattle.part_items.proofs.ItemLemmas.{item_again}
use Rattle.std.proofs.lemmas.Bool.{le-leb}

members_again : (count : ℕ) (rest : List ℕ) → 0 < count → count ≤ 64 → members_at (to_be_bytes w16 count ++ rest) ≡ Ok (count, rest)
unfolding members_at
members_again count rest some few = rw (number_again_2 count rest (omega arith), is_below 0 count some, le-leb count 64 few) refl

entry_items_again : (items : List Item) (rest : List ℕ) → 0 < length items → length items ≤ 64 → All FitsItem items → entry_items_at (to_be_bytes w16 (length items) ++ (flat_map spell_item items ++ rest)) ≡ Ok (items, rest)
unfolding entry_items_at
entry_items_again items rest some few each = rw (members_again (length items) (flat_map spell_item items ++ rest) some few) (several_again item_at spell_item FitsItem item_again items rest each)

after_heading : (entry : Entry) (rest : List ℕ) → FitsEntry entry
    → entry_at (to_be_bytes w64 entry.position ++ (to_be_bytes w64 entry.incarnation ++ (to_be_bytes w16 (length entry.items) ++ (flat_map spell_item entry.items ++ rest)))) ≡ Ok (entry, rest)
unfolding entry_at
after_heading entry rest fits =
    rw (
      count_again entry.position (to_be_bytes w64 entry.incarnation ++ (to_be_bytes w16 (length entry.items) ++ (flat_map spell_item entry.items ++ rest))) fits.position_fits,
      count_again entry.incarnation (to_be_bytes w16 (length entry.items) ++ (flat_map spell_item entry.items ++ rest)) fits.incarnation_fits,
      entry_items_again entry.items rest fits.some fits.few fits.each,
    ) refl

pub entry_again : (entry : Entry) (rest : List ℕ) → FitsEntry entry → entry_at (spell_entry entry ++ rest) ≡ Ok (entry, rest)
unfolding spell_entry spell_heading
entry_again entry rest fits = simp append_assoc (after_heading entry rest fits)

-- the entries at the front of bytes
abbrev entries_at : List ℕ → Read (List Entry)
entries_at bytes = members_at bytes >>= λ count. several_at entry_at count.0 count.1

entries_again : (entries : List Entry) (rest : List ℕ) → FitsFrame entries → entries_at (spell_frame entries ++ rest) ≡ Ok (entries, rest)
entries_again entries rest fits =
    simp append_assoc (rw (members_again (length entries) (flat_map spell_entry entries ++ rest) fits.some fits.few) (several_again entry_at spell_entry FitsEntry entry_again entries rest fits.each))

-- entries and what follows them are looked at last
then_alone : (count : Read ℕ) (entries : List Entry) (rest : List ℕ) → (count >>= λ c. several_at entry_at c.0 c.1) ≡ Ok (entries, rest)
    → (count >>= λ c. several_at entry_at c.0 c.1 >>= λ e. alone e) ≡ alone (entries, rest)
then_alone (Ok c) entries rest is = rw is refl
then_alone (Err left) entries rest is = absurd (cc is)

-- what is read as a frame's entries is a frame where nothing follows
whole : (bytes : List ℕ) (entries : List Entry) → entries_at bytes ≡ Ok (entries, []) → frame_in bytes ≡ Ok entries
unfolding frame_at
whole bytes entries is = rw (then_alone (members_at bytes) entries [] is) refl

pub frame_again : (entries : List Entry) → FitsFrame entries → frame_in (spell_frame entries) ≡ Ok entries
frame_again entries fits = whole (spell_frame entries) entries (ap entries_at (sym (append-nil (spell_frame entries))) ∙ entries_again entries [] fits)

-- and none where something follows
followed : (bytes : List ℕ) (entries : List Entry) (byte : ℕ) (more : List ℕ) → entries_at bytes ≡ Ok (entries, byte ∷ more) → frame_in bytes ≡ Err (length bytes - length (byte ∷ more))
unfolding frame_at
followed bytes entries byte more is = rw (then_alone (members_at bytes) entries (byte ∷ more) is) refl

pub frame_alone : (entries : List Entry) (byte : ℕ) (more : List ℕ) → FitsFrame entries → frame_in (spell_frame entries ++ byte ∷ more) ≡ Err (length (spell_frame entries))
frame_alone entries byte more fits =
    let size : length (spell_frame entries ++ byte ∷ more) - length (byte ∷ more) ≡ length (spell_frame entries) = omega (arith, length-append (spell_frame entries) (byte ∷ more)) in
    followed (spell_frame entries ++ byte ∷ more) entries byte more (entries_again entries (byte ∷ more) fits) ∙ ap (λ (n : ℕ). Err n) size

pub item_apart : (a b : Item) (more other : List ℕ) → FitsItem a → FitsItem b → spell_item a ++ more ≡ spell_item b ++ other → (a ≡ b) × (more ≡ other)
item_apart a b more other fits_a fits_b same = apart item_at spell_item FitsItem item_again a b more other fits_a fits_b same

pub frame_apart : (a b : List Entry) (more other : List ℕ) → FitsFrame a → FitsFrame b → spell_frame a ++ more ≡ spell_frame b ++ other → (a ≡ b) × (more ≡ other)
frame_apart a b more other fits_a fits_b same = apart entries_at spell_frame FitsFrame entries_again a b more other fits_a fits_b same
