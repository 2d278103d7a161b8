-- What is still to come of a log's next frame, whose entries are read one after another.
use Rattle.std.specs.Prelude.{◌≡◌, ℕ, ◌+◌, ◌-◌, ◌≤◌, ◌<◌, List, [], ◌∷◌, length, drop, Option, Some, None, Result, Ok, Err}
use Rattle.dura_value.specs.declared.faults.ReadError.{ReadError}
use Rattle.dura_value.specs.declared.faults.ReadError.TheVariants.{Bad, Memory}
use Rattle.dura_value.specs.Items.{Entry}
use Rattle.dura_value.specs.Limits.{number_limit}
use Rattle.dura_value.specs.Reading.{◌>>=◌, ReadFails}
use Rattle.dura_codec.specs.Fields.{Read}
use Rattle.log_items.specs.declared.frames.Entry as read
use Rattle.part_items.specs.Grammar.{alone, whole}
use Rattle.part_items.specs.Numbered.{Next, behind, next_entries_at, next_frame_in}
use Rattle.log_items.specs.Plain.{entry_of}
use Rattle.part_items.specs.Tags.{most_members}

-- where the log goes on, how many entries are left, and which they are, or the offset of the fault
pub record Coming : Type 0 where
  pub next : Next
  pub left : ℕ
  pub entries : Result (List Entry) ℕ

-- so many entries that stand in this rest of a frame's bytes, all of it
abbrev pub to_come : Next → (left : ℕ) → (bytes rest : List ℕ) → Result (List Entry) ℕ
to_come next left bytes rest = whole bytes (next_entries_at next left rest >>= λ entries. alone entries)

-- What stands at this offset of these bytes was read, seen by a view, and the offset behind it given; or the fault was,
-- unless memory ran out.
abbrev pub TakesFrom : {X Y : Type 0} → (X → Y) → (List ℕ → Read Y) → (bytes : List ℕ) → (at : ℕ) → Result (X × ℕ) ReadError → Type 0
TakesFrom view grammar bytes at (Ok (x, behind)) = (grammar (drop at bytes) ≡ Ok (view x, drop behind bytes)) × (behind ≤ length bytes)
TakesFrom view grammar bytes at (Err Memory) = Unit {0}
TakesFrom view grammar bytes at (Err (Bad offset)) = (left : ℕ) × (grammar (drop at bytes) ≡ Err left) × (offset ≡ length bytes - left)

-- the entries of a log's next frame are to come, of which there are 64 at most, unless memory ran out
abbrev pub Begins : Next → List ℕ → Result Coming ReadError → Type 0
Begins next bytes (Ok coming) = (coming.next ≡ next) × (coming.left ≤ most_members) × (coming.entries ≡ next_frame_in next bytes)
Begins next bytes (Err error) = ReadFails error (next_frame_in next bytes)

-- an entry stands where the log goes on, is of no earlier incarnation, and its numbers are below their limit
abbrev pub IsNext : Next → Entry → Type 0
IsNext next entry = (entry.position ≡ next.position) × (next.incarnation ≤ entry.incarnation) × (entry.position < number_limit) × (entry.incarnation < number_limit)

-- An entry was the first of those to come.
pub record IsFirst (old : Coming) (entry : Entry) (new : Coming) : Type 0 where
  pub is_next : IsNext old.next entry
  pub behind : new.next ≡ behind entry
  pub left : old.left ≡ new.left + 1
  pub entries : old.entries ≡ (new.entries >>= λ more. Ok (entry ∷ more))

-- The next entry was read, or there is none, unless memory ran out.
abbrev pub ReadsNext : (old new : Coming) → Result (Option read.Entry) ReadError → Type 0
ReadsNext old new (Ok (Some entry)) = IsFirst old (entry_of entry) new
ReadsNext old new (Ok None) = (old.entries ≡ Ok []) × (new ≡ old)
ReadsNext old new (Err error) = ReadFails error old.entries × (new ≡ old)
