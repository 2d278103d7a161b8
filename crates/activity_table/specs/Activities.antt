-- What an activity may give.
use Rattle.std.specs.Prelude.{ℤ, Bool, ◌+ℤ◌, List, [], ◌∷◌, codes, if◌then◌else◌, pos, negsuc, ◌^◌, nat_lt}
use Rattle.dura_value.specs.declared.data.Scalar.{Scalar}
use Rattle.dura_value.specs.declared.data.Scalar.TheVariants as scalars
use Rattle.dura_value.specs.declared.data.Value.{Value}
use Rattle.dura_value.specs.declared.data.Value.TheVariants as values
use Rattle.dura_value.specs.declared.outcome.Outcome.{Outcome}
use Rattle.dura_value.specs.declared.outcome.Outcome.TheVariants.{Done, Failed}

-- an integer of 64 bits
abbrev pub fits : ℤ → Bool
fits (pos n) = nat_lt n (2 ^ 63)
fits (negsuc n) = nat_lt n (2 ^ 63)

-- the sum of two integers
abbrev pub sum_of : List Scalar → Outcome
sum_of (scalars.Int a ∷ scalars.Int b ∷ []) = if fits (a +ℤ b) then Done (values.Int (a +ℤ b)) else Failed (codes "overflow")
sum_of other = Failed (codes "type")

abbrev pub added : Value → Outcome
added (values.List parts) = sum_of parts
added other = Failed (codes "type")
