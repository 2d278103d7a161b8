-- Values are read again.
use Rattle.std.proofs.Common.{◌≡◌, ℕ, suc, ◌+◌, ◌-◌, ◌≤◌, List, [], ◌∷◌, ◌++◌, length, take, Ok, refl, ap, ◌∙◌, append_assoc, length-append, arith, All, to_z-of_z, ℤ, FitsSigned}
use mir.Facts.{Fits-of_z}
use Rattle.std.specs.Int.{w16, w64, to_be_bytes, cast_unsigned}
use Rattle.std.specs.List.{flat_map}
use Rattle.std.proofs.Math.Seq.{take-append-add, drop-append_seam}
use Rattle.dura_value.specs.declared.data.Scalar.{Scalar}
use Rattle.dura_value.specs.declared.data.Scalar.TheVariants as scalars
use Rattle.dura_value.specs.declared.data.Value.{Value}
use Rattle.dura_value.specs.declared.data.Value.TheVariants as values
use Rattle.dura_codec.specs.Fields.{Read, number_at, several_at}
use Rattle.dura_codec.specs.Grammar.{scalar_at, scalars_at, value_front, of_front, value_at}
use Rattle.dura_codec.specs.Spelling.{spell_scalar, spell_value}
use Rattle.part_items.specs.Fits.{FitsScalar, FitsList, FitsValue}
use Rattle.part_items.proofs.Numbers.{number_again_2, number_again_8}
use Rattle.part_items.proofs.Words.{text_again}
use Rattle.std.proofs.lemmas.Bool.{le-leb}

-- what holds of each holds of those behind the first
rest_of : {X : Type 0} (P : X → Type 0) (x : X) (xs : List X) → All P (x ∷ xs) → All P xs
rest_of P x xs all = λ k d lt. all (suc k) d (omega arith)

first_of_all : {X : Type 0} (P : X → Type 0) (x : X) (xs : List X) → All P (x ∷ xs) → P x
first_of_all P x xs all = all 0 x (omega arith)

-- things that are each read again are read again one behind the other
pub several_again : {X : Type 0} (read : List ℕ → Read X) (spell : X → List ℕ) (P : X → Type 0) → ((x : X) (rest : List ℕ) → P x → read (spell x ++ rest) ≡ Ok (x, rest))
    → (xs : List X) (rest : List ℕ) → All P xs → several_at read (length xs) (flat_map spell xs ++ rest) ≡ Ok (xs, rest)
unfolding several_at
several_again read spell P again [] rest all = refl
several_again read spell P again (x ∷ xs) rest all =
    rw (append_assoc, again x (flat_map spell xs ++ rest) (first_of_all P x xs all), several_again read spell P again xs rest (rest_of P x xs all)) refl

int_again : (n : ℤ) (rest : List ℕ) → FitsSigned w64 n → number_at w64 (to_be_bytes w64 (cast_unsigned w64 n) ++ rest) ≡ Ok (cast_unsigned w64 n, rest)
int_again n rest fits = number_again_8 (cast_unsigned w64 n) rest (Fits-of_z fits).fits

pub scalar_again : (scalar : Scalar) (rest : List ℕ) → FitsScalar scalar → scalar_at (spell_scalar scalar ++ rest) ≡ Ok (scalar, rest)
unfolding scalar_at
scalar_again scalars.Null rest fits = refl
scalar_again scalars.False rest fits = refl
scalar_again scalars.True rest fits = refl
scalar_again (scalars.Int n) rest fits = rw (int_again n rest fits, to_z-of_z fits) refl
scalar_again (scalars.Text text) rest fits = rw (text_again text rest fits) refl

-- what was read of a front, and what lies behind it
front_read : {X : Type 0} (flat more rest : List ℕ) (x : X) (read : Read X) → read ≡ Ok (x, more) → of_front (flat ++ rest) (flat ++ more) read ≡ Ok (x, rest)
front_read flat more rest x read is =
    let used : length (flat ++ more) - length more ≡ length flat = omega (arith, length-append flat more) in
    rw (is, used, drop-append_seam flat rest) refl

-- a list's scalars are read from no more bytes than they may take
front_again : (most : ℕ) (parts : List Scalar) (rest : List ℕ) → length (flat_map spell_scalar parts) ≤ most → All FitsScalar parts
    → of_front (flat_map spell_scalar parts ++ rest) (take most (flat_map spell_scalar parts ++ rest)) (several_at scalar_at (length parts) (take most (flat_map spell_scalar parts ++ rest))) ≡ Ok (parts, rest)
front_again most parts rest short each =
    let is : most ≡ length (flat_map spell_scalar parts) + (most - length (flat_map spell_scalar parts)) = omega arith in
    let front : take most (flat_map spell_scalar parts ++ rest) ≡ flat_map spell_scalar parts ++ take (most - length (flat_map spell_scalar parts)) rest =
    ap (λ (n : ℕ). take n (flat_map spell_scalar parts ++ rest)) is ∙ take-append-add (flat_map spell_scalar parts) rest (most - length (flat_map spell_scalar parts)) in
    rw front (front_read (flat_map spell_scalar parts) (take (most - length (flat_map spell_scalar parts)) rest) rest parts _ (several_again scalar_at spell_scalar FitsScalar scalar_again parts (take (most - length (flat_map spell_scalar parts)) rest) each))

pub scalars_again : (parts : List Scalar) (rest : List ℕ) → FitsList parts → scalars_at (to_be_bytes w16 (length parts) ++ (flat_map spell_scalar parts ++ rest)) ≡ Ok (parts, rest)
unfolding scalars_at value_front
scalars_again parts rest fits =
    let few : length parts ≤ 1024 = fits.few in
    rw (number_again_2 (length parts) (flat_map spell_scalar parts ++ rest) (omega arith), le-leb (length parts) 1024 few) (front_again 65533 parts rest fits.short fits.each)

pub value_again : (value : Value) (rest : List ℕ) → FitsValue value → value_at (spell_value value ++ rest) ≡ Ok (value, rest)
unfolding value_at
value_again values.Null rest fits = rw (scalar_again scalars.Null rest fits) refl
value_again values.False rest fits = rw (scalar_again scalars.False rest fits) refl
value_again values.True rest fits = rw (scalar_again scalars.True rest fits) refl
value_again (values.Int n) rest fits = rw (scalar_again (scalars.Int n) rest fits) refl
value_again (values.Text text) rest fits = rw (scalar_again (scalars.Text text) rest fits) refl
value_again (values.List parts) rest fits = rw (scalars_again parts rest fits) refl
