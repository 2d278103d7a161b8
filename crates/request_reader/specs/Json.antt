-- What JSON values hold.
use Rattle.std.specs.Prelude.{ℕ, ◌+◌, ◌==◌, List, Bool, false, Option, Some, None, Result, Ok, Err}
use Rattle.std.specs.Option.{option_map_or}
use Rattle.std.specs.Str.{is_utf8}
use Rattle.serde_json.specs.Data.{Data, Items, no_items, item, Members, no_members, member}
use Rattle.serde_json.specs.Find.{get, as_str, as_object}
use Rattle.serde_json.specs.Read.{read}
use Rattle.dura_value.specs.Ids.{Id}
use Rattle.dura_value.specs.Names.{is_name}
use Rattle.dura_value.specs.Reading.{id_in}
use Rattle.dura_value.specs.Optional.{◌>>=◌, guard, where_it}

-- the JSON that the bytes are
abbrev pub data_of : List ℕ → Option Data
data_of bytes = guard (is_utf8 bytes) (read bytes)

-- how many members they are
abbrev pub count : Members → ℕ
count no_members = 0
count (member key d rest) = 1 + count rest

-- how many parts they are
abbrev pub count_items : Items → ℕ
count_items no_items = 0
count_items (item d rest) = 1 + count_items rest

-- whether it is an object of n members
abbrev pub has_members : ℕ → Data → Bool
has_members n d = option_map_or (λ members. count members == n) (as_object d) false

-- 1 where there is something
abbrev pub one_if : {X : Type 0} → Option X → ℕ
one_if None = 0
one_if (Some x) = 1

-- the text under this key
abbrev pub text_at : List ℕ → Data → Option (List ℕ)
text_at key d = get key d >>= as_str

-- the name under this key
abbrev pub name_at : List ℕ → Data → Option (List ℕ)
name_at key d = text_at key d >>= where_it is_name

-- what was read, if anything was
abbrev pub if_read : {X : Type 0} → Result X ℕ → Option X
if_read (Ok x) = Some x
if_read (Err offset) = None

-- the id whose written form stands under this key
abbrev pub id_at : List ℕ → Data → Option Id
id_at key d = text_at key d >>= λ text. if_read (id_in text)
