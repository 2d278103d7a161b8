-- How items, entries and frames are spelled.
use Rattle.std.specs.Prelude.{◌≤◌, List, ◌∷◌, ◌++◌, length, ℕ}
use Rattle.std.specs.List.{All, flat_map}
use Rattle.std.specs.Int.{w16, w32, w64, to_be_bytes}
use Rattle.dura_value.specs.Items.{Item, took, got, ran, ended, fired, trim, Entry}
use Rattle.dura_codec.specs.Spelling.{spell_id, spell_message, spell_outcome, CanSpellOutcome, CanSpellBody}
use Rattle.part_items.specs.Tags.{took_tag, got_tag, ran_tag, done_tag, fired_tag, trim_tag, most_members}

-- three numbers of 64 bits
unfoldable pub spell_three : (a b c : ℕ) → List ℕ
spell_three a b c = to_be_bytes w64 a ++ to_be_bytes w64 b ++ to_be_bytes w64 c

abbrev pub spell_item : Item → List ℕ
spell_item (took message) = took_tag ∷ spell_message message
spell_item (got source number message) =
    got_tag ∷ to_be_bytes w32 source.partition ++ spell_three source.incarnation source.position number ++ spell_message message
spell_item (ran from to stamp) = ran_tag ∷ spell_id from ++ spell_id to ++ to_be_bytes w64 stamp
spell_item (ended id task outcome) = done_tag ∷ spell_id id ++ to_be_bytes w32 task ++ spell_outcome outcome
spell_item (fired id task stamp) = fired_tag ∷ spell_id id ++ to_be_bytes w32 task ++ to_be_bytes w64 stamp
spell_item (trim reader number) = trim_tag ∷ to_be_bytes w32 reader.partition ++ spell_three number reader.incarnation reader.position

-- where an entry stands, and how many items it has
unfoldable pub spell_heading : (position incarnation count : ℕ) → List ℕ
spell_heading position incarnation count = to_be_bytes w64 position ++ to_be_bytes w64 incarnation ++ to_be_bytes w16 count

unfoldable pub spell_entry : Entry → List ℕ
spell_entry entry = spell_heading entry.position entry.incarnation (length entry.items) ++ flat_map spell_item entry.items

abbrev pub spell_frame : List Entry → List ℕ
spell_frame entries = to_be_bytes w16 (length entries) ++ flat_map spell_entry entries

-- ---- what may be written

abbrev pub CanSpellItem : Item → Type 0
CanSpellItem (took message) = CanSpellBody message.body
CanSpellItem (got source number message) = CanSpellBody message.body
CanSpellItem (ended id task outcome) = CanSpellOutcome outcome
CanSpellItem other = Unit {0}

-- an entry has at most 64 items
pub record CanSpellEntry (entry : Entry) : Type 0 where
  pub few : length entry.items ≤ most_members
  pub each : All CanSpellItem entry.items

-- a frame has at most 64 entries
pub record CanSpellFrame (entries : List Entry) : Type 0 where
  pub few : length entries ≤ most_members
  pub each : All CanSpellEntry entries
