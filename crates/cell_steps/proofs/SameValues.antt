-- Values are compared as they are.
use Rattle.std.proofs.Common.{◌≡◌, ◌&&◌, ◌∙◌, ℕ, Bool, true, false, List, [], ◌∷◌, ℤ, pos, negsuc, refl, ap, ap₂, sym, eqb-true, eq-eqb, arith}
use Rattle.std.proofs.lemmas.Bool.Decides.{nat_tests}
use Rattle.std.specs.Ordering.{int_eq}
use Rattle.std.specs.Cmp.Lexicographic.{pointwise}
use Rattle.std.specs.Prelude.{nat_eq}
use Rattle.dura_value.proofs.Ids.{and_true}
use Rattle.dura_value.specs.declared.data.Scalar.{Scalar}
use Rattle.dura_value.specs.declared.data.Scalar.TheVariants as scalars
use Rattle.dura_value.specs.declared.data.Value.{Value}
use Rattle.dura_value.specs.declared.data.Value.TheVariants as values
use Rattle.dura_value.specs.contracts.data.ScalarPartialEq.TheImpl as same_scalars
use Rattle.dura_value.specs.contracts.data.ValuePartialEq.TheImpl as same_values

both_true : (a b : Bool) → a && b ≡ true → (a ≡ true) × (b ≡ true)
both_true true b is = (refl, is)
both_true false b is = absurd (cc is)

pub bytes_same : (xs ys : List ℕ) → pointwise nat_eq xs ys ≡ true → xs ≡ ys
bytes_same [] [] same = refl
bytes_same [] (y ∷ ys) same = absurd (cc same)
bytes_same (x ∷ xs) [] same = absurd (cc same)
bytes_same (x ∷ xs) (y ∷ ys) same = let both = both_true _ _ same in ap₂ (λ (a : ℕ) (l : List ℕ). a ∷ l) (eqb-true x y both.0) (bytes_same xs ys both.1)

pub bytes_self : (xs : List ℕ) → pointwise nat_eq xs xs ≡ true
bytes_self [] = refl
bytes_self (x ∷ xs) = and_true _ _ (eq-eqb x x refl) (bytes_self xs)

nat_is : (a b : ℕ) → int_eq (pos a) (pos b) ≡ nat_eq a b
nat_is a b = grind (arith, nat_tests)

neg_is : (a b : ℕ) → int_eq (negsuc a) (negsuc b) ≡ nat_eq a b
neg_is a b = grind (arith, nat_tests)

int_same : (a b : ℤ) → int_eq a b ≡ true → a ≡ b
int_same (pos a) (pos b) same = ap pos (eqb-true a b (sym (nat_is a b) ∙ same))
int_same (negsuc a) (negsuc b) same = ap negsuc (eqb-true a b (sym (neg_is a b) ∙ same))
int_same (pos a) (negsuc b) same = absurd (cc same)
int_same (negsuc a) (pos b) same = absurd (cc same)

int_self : (a : ℤ) → int_eq a a ≡ true
int_self (pos a) = nat_is a a ∙ eq-eqb a a refl
int_self (negsuc a) = neg_is a a ∙ eq-eqb a a refl

scalar_same : (a b : Scalar) → same_scalars.ghosts.eq a b ≡ true → a ≡ b
scalar_same (scalars.Int a) (scalars.Int b) same = ap (λ (n : ℤ). scalars.Int n) (int_same a b same)
scalar_same (scalars.Text a) (scalars.Text b) same = ap (λ (t : List ℕ). scalars.Text t) (bytes_same a b same)
scalar_same scalars.Null scalars.Null same = refl
scalar_same scalars.False scalars.False same = refl
scalar_same scalars.True scalars.True same = refl
scalar_same a b same = absurd (cc same)

scalar_self : (a : Scalar) → same_scalars.ghosts.eq a a ≡ true
scalar_self (scalars.Int a) = int_self a
scalar_self (scalars.Text a) = bytes_self a
scalar_self scalars.Null = refl
scalar_self scalars.False = refl
scalar_self scalars.True = refl

scalars_same : (xs ys : List Scalar) → pointwise same_scalars.ghosts.eq xs ys ≡ true → xs ≡ ys
scalars_same [] [] same = refl
scalars_same [] (y ∷ ys) same = absurd (cc same)
scalars_same (x ∷ xs) [] same = absurd (cc same)
scalars_same (x ∷ xs) (y ∷ ys) same = let both = both_true _ _ same in ap₂ (λ (a : Scalar) (l : List Scalar). a ∷ l) (scalar_same x y both.0) (scalars_same xs ys both.1)

scalars_self : (xs : List Scalar) → pointwise same_scalars.ghosts.eq xs xs ≡ true
scalars_self [] = refl
scalars_self (x ∷ xs) = and_true _ _ (scalar_self x) (scalars_self xs)

pub value_same : (a b : Value) → same_values.ghosts.eq a b ≡ true → a ≡ b
value_same (values.Int a) (values.Int b) same = ap (λ (n : ℤ). values.Int n) (int_same a b same)
value_same (values.Text a) (values.Text b) same = ap (λ (t : List ℕ). values.Text t) (bytes_same a b same)
value_same (values.List a) (values.List b) same = ap (λ (l : List Scalar). values.List l) (scalars_same a b same)
value_same values.Null values.Null same = refl
value_same values.False values.False same = refl
value_same values.True values.True same = refl
value_same a b same = absurd (cc same)

pub value_self : (a : Value) → same_values.ghosts.eq a a ≡ true
value_self (values.Int a) = int_self a
value_self (values.Text a) = bytes_self a
value_self (values.List a) = scalars_self a
value_self values.Null = refl
value_self values.False = refl
value_self values.True = refl
