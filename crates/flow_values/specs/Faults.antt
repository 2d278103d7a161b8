-- Where a file of flows is refused, and how reading goes on.
use Rattle.std.specs.Prelude.{ℕ, List, [], ◌∷◌, Bool, true, false, map, Option, Some, None, Result, Ok, Err}
use Rattle.std.specs.Fmt.{decimal}
use Rattle.std.specs.List.{concat}

-- a step into JSON: to the member under a key, or to a part of an array
pub data Step : Type 0 where
  to_key : (key : List ℕ) → Step
  to_part : (index : ℕ) → Step

-- a value of a file, by the steps to it from the whole file
abbrev pub Path : Type 0
Path = List Step

-- a key is a name or one of the file's words, so nothing of it has to be written in another way
abbrev pub step_text : Step → List ℕ
step_text (to_key key) = 47 ∷ key
step_text (to_part index) = 47 ∷ decimal index

-- `#` and the JSON Pointer
abbrev pub path_text : Path → List ℕ
path_text path = 35 ∷ concat (map step_text path)

infixl 10 ◌>>=◌
-- a step of reading goes on with what was read, or ends with the place of the fault
abbrev pub ◌>>=◌ : {X Y : Type 0} → Result X Path → (X → Result Y Path) → Result Y Path
(Ok x) >>= f = f x
(Err path) >>= f = Err path

-- what is read there; a fault is within it
abbrev pub at : {X : Type 0} → Step → Result X Path → Result X Path
at step (Ok x) = Ok x
at step (Err path) = Err (step ∷ path)

-- this value isn't of the shape wanted
abbrev pub misshapen : {X : Type 0} → Result X Path
misshapen = Err []

-- it, unless there is none
abbrev pub wanted : {X : Type 0} → Option X → Result X Path
wanted (Some x) = Ok x
wanted None = misshapen

-- only where the test passes
abbrev pub where_fits : {X : Type 0} → Bool → Result X Path → Result X Path
where_fits true next = next
where_fits false next = misshapen
