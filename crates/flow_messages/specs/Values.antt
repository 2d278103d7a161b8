-- The values of results.
use Rattle.std.specs.Prelude.{◌≡◌, ℕ, List, Result, Ok, Err}
use Rattle.std.specs.declared.vec.Vec.{Vec}
use Rattle.std.specs.declared.alloc.Global.{Global}
use Rattle.dura_value.specs.declared.data.Value.{Value}

-- the values of results, or the first failure among them
abbrev pub Collects : Result (List Value) (List ℕ) → Result (Vec Value Global) (List ℕ) → Type 0
Collects wanted (Ok values) = wanted ≡ Ok values.items
Collects wanted (Err text) = wanted ≡ Err text
