-- What the reader of trees answers.
use Rattle.std.specs.Prelude.{◌≡◌, List, Result, Ok, Err, Option, Some, None}
use Rattle.json.specs.Token.{Token}
use Rattle.json_tree.specs.declared.reading.ReadError.{ReadError}
use Rattle.json_tree.specs.declared.reading.ReadError.TheVariants.{NotJson, Memory}

-- a refusal says that nothing is there, unless memory ran out
abbrev pub TreeFails : {Y : Type 0} → ReadError → Option Y → Type 0
TreeFails NotJson there = there ≡ None
TreeFails Memory there = Unit {0}

-- what was read, seen by view, is what is there
abbrev pub Finds : {X Y : Type 0} → (X → Y) → Result X ReadError → Option Y → Type 0
Finds view (Ok x) there = there ≡ Some (view x)
Finds view (Err error) there = TreeFails error there

-- the same, and what is left of the tokens
abbrev pub Takes : {X Y : Type 0} → (X → Y) → Result X ReadError → List Token → Option (Y × List Token) → Type 0
Takes view (Ok x) left there = there ≡ Some (view x, left)
Takes view (Err error) left there = TreeFails error there
