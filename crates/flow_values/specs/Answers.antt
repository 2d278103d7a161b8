-- What the parts of the reader answer.
use Rattle.std.specs.Prelude.{◌≡◌, ◌∷◌, Result, Ok, Err}
use Rattle.flow_values.specs.Faults.{Path, Step}
use Rattle.flow_values.specs.declared.faults.PartError.{PartError}
use Rattle.flow_values.specs.declared.faults.PartError.TheVariants.{Misshapen, Memory}

-- what was read, seen by view, or the place of the fault, is what is wanted, unless memory ran out
abbrev pub PartFails : {Y : Type 0} → PartError → Result Y Path → Type 0
PartFails (Misshapen path) read = read ≡ Err path
PartFails Memory read = Unit {0}

abbrev pub PartGives : {X Y : Type 0} → (X → Y) → Result X PartError → Result Y Path → Type 0
PartGives view (Ok x) read = read ≡ Ok (view x)
PartGives view (Err error) read = PartFails error read

-- the same fault, seen from one step further out, unless memory ran out
abbrev pub IsUnder : Step → PartError → PartError → Type 0
IsUnder step error Memory = Unit {0}
IsUnder step (Misshapen path) (Misshapen further) = further ≡ step ∷ path
IsUnder step Memory (Misshapen further) = ⊥
