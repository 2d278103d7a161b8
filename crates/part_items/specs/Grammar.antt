-- What the bytes of items, entries and frames read as.
use Rattle.std.specs.Prelude.{ℕ, ◌==◌, ◌&&◌, List, [], ◌∷◌, length, Result, Ok, Err, nat_lt, nat_le, if◌then◌else◌}
use Rattle.std.specs.Int.{w16, w32}
use Rattle.dura_value.specs.Items.{Item, took, got, ran, ended, fired, trim, Entry}
use Rattle.dura_value.specs.Reading.{◌>>=◌}
use Rattle.dura_codec.specs.Fields.{Read, byte_at, number_at, count_at, several_at, placed}
use Rattle.dura_codec.specs.Grammar.{id_at, message_at, outcome_at}
use Rattle.part_items.specs.Tags.{took_tag, got_tag, ran_tag, done_tag, fired_tag, trim_tag, most_members}

unfoldable pub took_at : List ℕ → Read Item
took_at bytes = do
  message ← message_at bytes
  Ok (took message.0, message.1)

unfoldable pub got_at : List ℕ → Read Item
got_at bytes = do
  src ← number_at w32 bytes
  inc ← count_at src.1
  pos ← count_at inc.1
  seq ← count_at pos.1
  message ← message_at seq.1
  Ok (got (record { partition = src.0; incarnation = inc.0; position = pos.0 }) seq.0 message.0, message.1)

unfoldable pub ran_at : List ℕ → Read Item
ran_at bytes = do
  from ← id_at bytes
  to ← id_at from.1
  stamp ← count_at to.1
  Ok (ran from.0 to.0 stamp.0, stamp.1)

unfoldable pub done_at : List ℕ → Read Item
done_at bytes = do
  id ← id_at bytes
  task ← number_at w32 id.1
  outcome ← outcome_at task.1
  Ok (ended id.0 task.0 outcome.0, outcome.1)

unfoldable pub fired_at : List ℕ → Read Item
fired_at bytes = do
  id ← id_at bytes
  task ← number_at w32 id.1
  stamp ← count_at task.1
  Ok (fired id.0 task.0 stamp.0, stamp.1)

unfoldable pub trim_at : List ℕ → Read Item
trim_at bytes = do
  dst ← number_at w32 bytes
  upto ← count_at dst.1
  inc ← count_at upto.1
  pos ← count_at inc.1
  Ok (trim (record { partition = dst.0; incarnation = inc.0; position = pos.0 }) upto.0, pos.1)

unfoldable pub item_at : List ℕ → Read Item
item_at bytes =
    byte_at bytes >>= λ tag.
    if tag.0 == took_tag
    then took_at tag.1
    else if tag.0 == got_tag
    then got_at tag.1
    else if tag.0 == ran_tag
    then ran_at tag.1
    else if tag.0 == done_tag
    then done_at tag.1
    else if tag.0 == fired_tag
    then fired_at tag.1
    else if tag.0 == trim_tag
    then trim_at tag.1
    else Err (length bytes)

-- how many members there are: 1 to 64
unfoldable pub members_at : List ℕ → Read ℕ
members_at bytes = do
  count ← number_at w16 bytes
  if nat_lt 0 count.0 && nat_le count.0 most_members then Ok count else Err (length bytes)

-- the items of an entry, of which there are 1 to 64
unfoldable pub entry_items_at : List ℕ → Read (List Item)
entry_items_at bytes = do
  count ← members_at bytes
  several_at item_at count.0 count.1

unfoldable pub entry_at : List ℕ → Read Entry
entry_at bytes = do
  position ← count_at bytes
  incarnation ← count_at position.1
  items ← entry_items_at incarnation.1
  Ok (record { position = position.0; incarnation = incarnation.0; items = items.0 }, items.1)

-- what was read takes all of the bytes
abbrev pub alone : {X : Type 0} → X × List ℕ → Read X
alone (x, []) = Ok (x, [])
alone (x, byte ∷ bytes) = Err (length (byte ∷ bytes))

unfoldable pub frame_at : List ℕ → Read (List Entry)
frame_at bytes = do
  count ← members_at bytes
  entries ← several_at entry_at count.0 count.1
  alone entries

-- what was read of all of the bytes, or the offset of the fault
abbrev pub whole : {X : Type 0} → List ℕ → Read X → Result X ℕ
whole bytes read = placed bytes read >>= λ x. Ok x.0

-- the entries of a frame's bytes, or the offset of the fault
abbrev pub frame_in : List ℕ → Result (List Entry) ℕ
frame_in bytes = whole bytes (frame_at bytes)
