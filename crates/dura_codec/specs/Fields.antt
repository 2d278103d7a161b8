-- Reading from the front. What is read is a thing and the bytes behind it, or how many bytes are left from the first
-- field on that can't be read or passes a limit.
use Rattle.std.specs.Prelude.{◌≡◌, ℕ, zero, suc, ◌-◌, ◌≤◌, List, [], ◌∷◌, length, take, drop, Result, Ok, Err, nat_lt, Bool, if◌then◌else◌}
use Rattle.std.specs.Borrow.{Bor}
use Rattle.std.specs.Int.{Width, w32, w64, byte_len, from_be_bytes}
use Rattle.dura_value.specs.declared.faults.ReadError.{ReadError}
use Rattle.dura_value.specs.declared.faults.ReadError.TheVariants as places
use Rattle.dura_value.specs.Limits.{number_limit}
use Rattle.dura_value.specs.Reading.{◌>>=◌, ReadGives}
use Rattle.dura_codec.specs.declared.fields.FieldError.{FieldError}
use Rattle.dura_codec.specs.declared.fields.FieldError.TheVariants.{Bad, Memory}

-- a thing and the bytes behind it
abbrev pub Read : Type 0 → Type 0
Read X = Result (X × List ℕ) ℕ

-- a reader stopped where the definition does, unless memory ran out
abbrev pub Stops : {X : Type 0} → FieldError → Read X → Type 0
Stops Memory read = Unit {0}
Stops (Bad left) read = read ≡ Err left

-- a reader took from the front, seen by a view, what is read, unless memory ran out
abbrev pub Takes : {X Y : Type 0} → (X → Y) → Result (X × Bor (List ℕ)) FieldError → Read Y → Type 0
Takes view (Ok x) read = read ≡ Ok (view x.0, x.1.now)
Takes view (Err error) read = Stops error read

-- no more is left than there was
abbrev pub StaysWithin : {X : Type 0} → List ℕ → Result (X × Bor (List ℕ)) FieldError → Type 0
StaysWithin bytes (Ok x) = length x.1.now ≤ length bytes
StaysWithin bytes (Err Memory) = Unit {0}
StaysWithin bytes (Err (Bad left)) = left ≤ length bytes

-- where a fault is: so many bytes from the start
abbrev pub placed : {X : Type 0} → List ℕ → Read X → Read X
placed bytes (Ok x) = Ok x
placed bytes (Err left) = Err (length bytes - left)

-- a fault by its offset
abbrev pub fault_in : List ℕ → FieldError → ReadError
fault_in bytes (Bad left) = places.Bad (length bytes - left)
fault_in bytes Memory = places.Memory

-- a thing was read from the front of bytes, or the offset of the fault was given, unless memory ran out
abbrev pub ReadsAs : {X Y : Type 0} → (X → Y) → (List ℕ → Read Y) → List ℕ → Result (X × Bor (List ℕ)) ReadError → Type 0
ReadsAs view grammar bytes result = ReadGives (λ x. (view x.0, x.1.now)) result (placed bytes (grammar bytes))

abbrev pub byte_at : List ℕ → Read ℕ
byte_at [] = Err 0
byte_at (byte ∷ rest) = Ok (byte, rest)

-- a big-endian number
abbrev pub number_at : Width → List ℕ → Read ℕ
number_at w bytes = if nat_lt (length bytes) (byte_len w) then Err (length bytes) else Ok (from_be_bytes w (take (byte_len w) bytes), drop (byte_len w) bytes)

-- a number of 64 bits whose highest bit is clear
unfoldable pub count_at : List ℕ → Read ℕ
count_at bytes = do
  number ← number_at w64 bytes
  if nat_lt number.0 number_limit then Ok number else Err (length bytes)

-- a request's number, which isn't 0
unfoldable pub request_number_at : List ℕ → Read ℕ
request_number_at bytes = do
  number ← number_at w32 bytes
  if nat_lt 0 number.0 then Ok number else Err (length bytes)

-- so many bytes that pass a test
unfoldable pub run_at : (List ℕ → Bool) → ℕ → List ℕ → Read (List ℕ)
run_at test size bytes =
    if nat_lt (length bytes) size then Err (length bytes) else (if test (take size bytes) then Ok (take size bytes, drop size bytes) else Err (length bytes))

-- so many of them, one behind the other
unfoldable pub several_at : {X : Type 0} → (List ℕ → Read X) → ℕ → List ℕ → Read (List X)
several_at read zero bytes = Ok ([], bytes)
several_at read (suc count) bytes = do
  first ← read bytes
  more ← several_at read count first.1
  Ok (first.0 ∷ more.0, more.1)
