-- How the entries of a log are numbered.
use Rattle.std.specs.Prelude.{◌≡◌, ℕ, zero, suc, ◌+◌, ◌≤◌, ◌==◌, List, [], ◌∷◌, length, Result, Ok, Err, nat_le, if◌then◌else◌}
use Rattle.dura_value.specs.Items.{Entry}
use Rattle.dura_value.specs.Reading.{◌>>=◌}
use Rattle.dura_codec.specs.Fields.{Read, count_at}
use Rattle.part_items.specs.Grammar.{members_at, entry_items_at, alone, whole}
use Rattle.part_items.specs.declared.numbered.Next as declared

-- where a log goes on: the position of its next entry, and the incarnation that no entry from there on is before
pub record Next : Type 0 where
  pub position : ℕ
  pub incarnation : ℕ

abbrev pub next_of : declared.Next → Next
next_of next = record { position = next.position; incarnation = next.incarnation }

-- where it goes on behind an entry
abbrev pub behind : Entry → Next
behind entry = record { position = entry.position + 1; incarnation = entry.incarnation }

-- where it goes on behind these
abbrev pub behind_all : Next → List Entry → Next
behind_all next [] = next
behind_all next (entry ∷ entries) = behind_all (behind entry) entries

-- each of these stands where the log goes on behind the one before, and is of no earlier incarnation
abbrev pub IsNumbered : Next → List Entry → Type 0
IsNumbered next [] = Unit {0}
IsNumbered next (entry ∷ entries) =
    (entry.position ≡ next.position) × (next.incarnation ≤ entry.incarnation) × IsNumbered (behind entry) entries

-- the position of the next entry
unfoldable pub position_at : Next → List ℕ → Read ℕ
position_at next bytes = do
  position ← count_at bytes
  if position.0 == next.position then Ok position else Err (length bytes)

-- the incarnation of the next entry
unfoldable pub incarnation_at : Next → List ℕ → Read ℕ
incarnation_at next bytes = do
  incarnation ← count_at bytes
  if nat_le next.incarnation incarnation.0 then Ok incarnation else Err (length bytes)

-- an entry that stands where the log goes on
unfoldable pub next_entry_at : Next → List ℕ → Read Entry
next_entry_at next bytes = do
  position ← position_at next bytes
  incarnation ← incarnation_at next position.1
  items ← entry_items_at incarnation.1
  Ok (record { position = position.0; incarnation = incarnation.0; items = items.0 }, items.1)

-- so many entries, each of which stands where the log goes on behind the one before
unfoldable pub next_entries_at : Next → ℕ → List ℕ → Read (List Entry)
next_entries_at next zero bytes = Ok ([], bytes)
next_entries_at next (suc count) bytes = do
  first ← next_entry_at next bytes
  more ← next_entries_at (behind first.0) count first.1
  Ok (first.0 ∷ more.0, more.1)

unfoldable pub next_frame_at : Next → List ℕ → Read (List Entry)
next_frame_at next bytes = do
  count ← members_at bytes
  entries ← next_entries_at next count.0 count.1
  alone entries

-- the entries of the bytes of a log's next frame, or the offset of the fault
abbrev pub next_frame_in : Next → List ℕ → Result (List Entry) ℕ
next_frame_in next bytes = whole bytes (next_frame_at next bytes)
