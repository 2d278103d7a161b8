-- Which bytes are the written form of a name, a key or an id, and how far others begin one.
use Rattle.std.specs.Prelude.{◌≡◌, ℕ, suc, ◌+◌, ◌==◌, List, [], ◌∷◌, length, take, drop, min, Bool, Result, Ok, Err, if◌then◌else◌, nat_lt}
use Rattle.std.specs.List.{prefix_len, position_or_len}
use Rattle.std.specs.Char.{is_ascii_alphabetic}
use Rattle.dura_value.specs.declared.faults.ReadError.{ReadError}
use Rattle.dura_value.specs.declared.faults.ReadError.TheVariants.{Bad, Memory}
use Rattle.dura_value.specs.Ids.{Id, orchestration, entity, client}
use Rattle.dura_value.specs.Limits.{most_word_bytes}
use Rattle.dura_value.specs.Names.{is_name, is_key, goes_on_name, stands_in_key}

-- a step of reading goes on with what was read, or ends with the offset of the fault
infixl 10 ◌>>=◌
abbrev pub ◌>>=◌ : {A B : Type 0} → Result A ℕ → (A → Result B ℕ) → Result B ℕ
(Ok x) >>= f = f x
(Err offset) >>= f = Err offset

-- what was answered, seen by a view, is what was read, unless memory ran out
abbrev pub ReadFails : {Y : Type 0} → ReadError → Result Y ℕ → Type 0
ReadFails Memory read = Unit {0}
ReadFails (Bad offset) read = read ≡ Err offset

abbrev pub ReadGives : {X Y : Type 0} → (X → Y) → Result X ReadError → Result Y ℕ → Type 0
ReadGives view (Ok x) read = read ≡ Ok (view x)
ReadGives view (Err error) read = ReadFails error read

-- how many of the first bytes begin a name
abbrev pub name_front : List ℕ → ℕ
name_front [] = 0
name_front (first ∷ rest) = if is_ascii_alphabetic first then min most_word_bytes (suc (prefix_len goes_on_name rest)) else 0

-- how many of the first bytes begin a key
abbrev pub key_front : List ℕ → ℕ
key_front bytes = min most_word_bytes (prefix_len stands_in_key bytes)

-- a name that begins at this offset, or how far the bytes begin one
abbrev pub name_at : ℕ → List ℕ → Result (List ℕ) ℕ
name_at at bytes = if is_name bytes then Ok bytes else Err (at + name_front bytes)

abbrev pub key_at : ℕ → List ℕ → Result (List ℕ) ℕ
key_at at bytes = if is_key bytes then Ok bytes else Err (at + key_front bytes)

abbrev pub is_slash : ℕ → Bool
is_slash byte = byte == 47

-- a name, a slash and a key
unfoldable pub pair_at : ℕ → List ℕ → Result (List ℕ × List ℕ) ℕ
pair_at at bytes = let place = position_or_len is_slash bytes in
    name_at at (take place bytes) >>= λ name.
    if nat_lt place (length bytes) then (key_at (at + place + 1) (drop (place + 1) bytes) >>= λ key. Ok (name, key)) else Err (at + place)

-- what is begun by `#` is a client, what is begun by `@` an entity, and the rest an instance of a flow
unfoldable pub id_in : List ℕ → Result Id ℕ
id_in [] = Err 0
id_in (first ∷ rest) =
    if first == 35
    then (name_at 1 rest >>= λ name. Ok (client name))
    else (if first == 64 then (pair_at 1 rest >>= λ pair. Ok (entity pair.0 pair.1)) else (pair_at 0 (first ∷ rest) >>= λ pair. Ok (orchestration pair.0 pair.1)))
