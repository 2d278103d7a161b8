-- How many bytes scalars take: what was counted and what is left.
use Rattle.std.proofs.Common.{◌≡◌, ℕ, ◌+◌, ◌<◌, List, length, drop, get_or, false, refl, arith, add-one}
use Rattle.std.proofs.Math.Seq.{drop-cons}
use Rattle.std.specs.Prelude.{nat_le}
use Rattle.std.proofs.lemmas.Bool.Decides.{nat_tests}
use Rattle.dura_value.specs.declared.data.Scalar.{Scalar}
use Rattle.dura_value.specs.Limits.{most_scalars_bytes}
use Rattle.dura_value.specs.Values.{scalar_size, scalars_size}

sizes_from : (ss : List Scalar) (i : ℕ) (s : Scalar) → i < length ss → s ≡ get_or ss i s → scalars_size (drop i ss) ≡ scalar_size s + scalars_size (drop (i + 1) ss)
sizes_from ss i s lt at = rw (add-one, drop-cons ss i s lt, ← at) refl

-- a scalar that still fits was counted
pub counted : (ss : List Scalar) (i left after : ℕ) (s : Scalar) → i < length ss → s ≡ get_or ss i s → scalars_size ss + left ≡ most_scalars_bytes + scalars_size (drop i ss) → after + scalar_size s ≡ left → scalars_size ss + after ≡ most_scalars_bytes + scalars_size (drop (i + 1) ss)
counted ss i left after s lt at before is = omega (arith, sizes_from ss i s lt at)

-- a scalar doesn't fit any more
pub too_many : (ss : List Scalar) (i left : ℕ) (s : Scalar) → i < length ss → s ≡ get_or ss i s → scalars_size ss + left ≡ most_scalars_bytes + scalars_size (drop i ss) → left < scalar_size s → nat_le (scalars_size ss) most_scalars_bytes ≡ false
too_many ss i left s lt at before is = let above : most_scalars_bytes < scalars_size ss = omega (arith, sizes_from ss i s lt at) in grind (arith, nat_tests)
