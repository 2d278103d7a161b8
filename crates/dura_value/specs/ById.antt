-- Functions of an id, or of an id and a number, that differ from another at one place.
use Rattle.std.specs.Prelude.{◌==◌, ◌&&◌, ℕ, Option, None, if◌then◌else◌}
use Rattle.dura_value.specs.Ids.{Id, id_eq}

-- at one id this, elsewhere as before
abbrev pub at_id : {X : Type 0} → (Id → X) → Id → X → Id → X
at_id f id x other = if id_eq id other then x else f other

-- at one id and number this, elsewhere as before
abbrev pub at_number : {X : Type 0} → (Id → ℕ → X) → Id → ℕ → X → Id → ℕ → X
at_number f id number x other other_number = if id_eq id other && number == other_number then x else f other other_number

-- at one id nothing under any number, elsewhere as before
abbrev pub cleared : {X : Type 0} → (Id → ℕ → Option X) → Id → Id → ℕ → Option X
cleared f id other number = if id_eq id other then None else f other number
