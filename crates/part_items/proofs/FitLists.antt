-- Counting the bytes of a list's scalars against the limit.
use Rattle.std.proofs.Common.{◌≡◌, ℕ, ◌+◌, ◌<◌, List, length, take, get_or, sym, ap, arith, subst}
use Rattle.std.specs.List.{All, flat_map}
use Rattle.std.proofs.lemmas.List.Concat.{length-flat_map}
use Rattle.std.proofs.lemmas.List.Elements.{All-more}
use Rattle.std.proofs.lemmas.List.Folds.{length-flat_map-take}
use Rattle.std.proofs.lemmas.List.Sums.{sum_by_more}
use Rattle.dura_value.specs.declared.data.Scalar.{Scalar}
use Rattle.dura_value.specs.Limits.{most_scalars_bytes}
use Rattle.dura_codec.specs.Spelling.{spell_scalar}
use Rattle.part_items.specs.Fits.{FitsScalar, FitsList}

abbrev spelled : List Scalar → List ℕ
spelled = flat_map spell_scalar

abbrev size : Scalar → ℕ
size = λ s. length (spell_scalar s)

one_more : (ss : List Scalar) (i : ℕ) (s : Scalar) → i < length ss → s ≡ get_or ss i s → length (spelled (take (i + 1) ss)) ≡ length (spelled (take i ss)) + length (spell_scalar s)
one_more ss i s lt at =
    let behind = length-flat_map spell_scalar (take (i + 1) ss) in
    let before = length-flat_map spell_scalar (take i ss) in
    let step = sum_by_more size ss i s lt in
    let same : length (spell_scalar (get_or ss i s)) ≡ length (spell_scalar s) = ap size (sym at) in
    omega (arith, behind, before, step, same)

-- a scalar that isn't too long was counted
pub counted : (ss : List Scalar) (i left after : ℕ) (s : Scalar) → i < length ss → s ≡ get_or ss i s → length (spelled (take i ss)) + left ≡ most_scalars_bytes → after + length (spell_scalar s) ≡ left → length (spelled (take (i + 1) ss)) + after ≡ most_scalars_bytes
counted ss i left after s lt at before is = omega (arith, one_more ss i s lt at)

pub all_more : (ss : List Scalar) (i : ℕ) (s : Scalar) → i < length ss → s ≡ get_or ss i s → All FitsScalar (take i ss) → FitsScalar s → All FitsScalar (take (i + 1) ss)
all_more ss i s lt at before fits = All-more FitsScalar ss i s lt before (subst FitsScalar at fits)

-- it is too long
pub too_long : (ss : List Scalar) (i left n : ℕ) (s : Scalar) → n ≡ length (spell_scalar s) → left < n → i < length ss → s ≡ get_or ss i s → length (spelled (take i ss)) + left ≡ most_scalars_bytes → FitsList ss → ⊥
too_long ss i left n s is long lt at before fits =
    let same : length (spell_scalar (get_or ss i s)) ≡ length (spell_scalar s) = ap size (sym at) in
    omega (arith, length-flat_map-take spell_scalar ss i s lt, same, fits.short)
