-- The next frame of a log, and bytes that are none.
use Rattle.std.specs.Prelude.{◌≡◌, ℕ, List, [], ◌∷◌, ◌++◌, map, codes, replicate, Ok, Err, Result}
use Rattle.dura_value.specs.Ids.{client}
use Rattle.dura_value.specs.Messages.{query}
use Rattle.dura_value.specs.Items.{took, Entry}
use Rattle.part_items.specs.Coming.{Coming}
use Rattle.part_items.specs.Numbered.{Next, next_frame_in}
use Rattle.worked_rows.specs.Frames.{example_bytes, example_entries}

-- where a log goes on, and the bytes that stand there
pub record Log : Type 0 where
  pub next : Next
  pub bytes : List ℕ

abbrev pub next_read : Log → Result (List Entry) ℕ
next_read log = next_frame_in log.next log.bytes

-- an entry whose one item begins with this tag: client a's query of client b by request 1 was taken, where it is 0x20
abbrev entry_bytes : (position incarnation tag : ℕ) → List ℕ
entry_bytes position incarnation tag =
    (replicate 7 0 ++ position ∷ []) ++ (replicate 7 0 ++ incarnation ∷ []) ++ 0 ∷ 1 ∷ tag ∷ 3 ∷ 1 ∷ 0x61 ∷ 3 ∷ 1 ∷ 0x62 ∷ 0x12 ∷ 0 ∷ 0 ∷ 0 ∷ 1 ∷ []

abbrev entry : (position incarnation : ℕ) → Entry
entry position incarnation =
    record { position = position; incarnation = incarnation; items = took (record { from = client (codes "a"); to = client (codes "b"); body = query 1 }) ∷ [] }

abbrev log : (position incarnation : ℕ) → List ℕ → Log
log position incarnation bytes = record { next = record { position = position; incarnation = incarnation }; bytes = bytes }

-- the example where a log begins; two entries where it goes on, the second of a later incarnation
abbrev pub next_rows : List (Log × List Entry)
next_rows =
    (log 0 0 example_bytes, example_entries)
    ∷ (log 5 2 (0 ∷ 2 ∷ entry_bytes 5 2 0x20 ++ entry_bytes 6 3 0x20), entry 5 2 ∷ entry 6 3 ∷ [])
    ∷ []

-- the example at another place, and in a later incarnation; a second entry at the place of the first one whose tag is none either, and
-- one whose tag alone is none; a second entry of an incarnation before the first one's
abbrev pub next_faults : List (Log × ℕ)
next_faults =
    (log 1 0 example_bytes, 2)
    ∷ (log 0 1 example_bytes, 10)
    ∷ (log 5 2 (0 ∷ 2 ∷ entry_bytes 5 2 0x20 ++ entry_bytes 5 2 0x1F), 32)
    ∷ (log 5 2 (0 ∷ 2 ∷ entry_bytes 5 2 0x20 ++ entry_bytes 6 2 0x1F), 50)
    ∷ (log 5 2 (0 ∷ 2 ∷ entry_bytes 5 3 0x20 ++ entry_bytes 6 2 0x20), 40)
    ∷ []

-- each of these bytes reads as the entries beside it
abbrev pub NextReads : List (Log × List Entry) → Type 0
NextReads rows = map (λ row. next_read row.0) rows ≡ map (λ row. Ok row.1) rows

-- none of these bytes can be read, from the offset beside them on
abbrev pub NextFaults : List (Log × ℕ) → Type 0
NextFaults rows = map (λ row. next_read row.0) rows ≡ map (λ row. Err row.1) rows

-- two entries and their bytes; two are to come, or two where a byte stands behind them, then one, and none
abbrev pub two_bytes : List ℕ
two_bytes = 0 ∷ 2 ∷ entry_bytes 5 2 0x20 ++ entry_bytes 6 3 0x20

abbrev coming : (position incarnation left : ℕ) → Result (List Entry) ℕ → Coming
coming position incarnation left entries = record { next = record { position = position; incarnation = incarnation }; left = left; entries = entries }

abbrev pub first_entry : Entry
first_entry = entry 5 2

abbrev pub second_entry : Entry
second_entry = entry 6 3

abbrev pub two_to_come : Coming
two_to_come = coming 5 2 2 (Ok (first_entry ∷ second_entry ∷ []))

abbrev pub broken_to_come : Coming
broken_to_come = coming 5 2 2 (Err 62)

abbrev pub broken_behind : Coming
broken_behind = coming 6 2 1 (Err 62)

abbrev pub one_to_come : Coming
one_to_come = coming 6 2 1 (Ok (second_entry ∷ []))

abbrev pub none_to_come : Coming
none_to_come = coming 7 3 0 (Ok [])

abbrev pub too_many : Coming
too_many = coming 5 2 65 (Ok (first_entry ∷ second_entry ∷ []))
