-- Small facts on options and tests.
use Rattle.std.proofs.Common.{◌≡◌, ◌==◌, ℕ, Bool, true, false, cond, Option, Some, None, refl, sym, ◌∙◌, eq-eqb}
use Rattle.dura_value.proofs.Basics.{some_same}

-- what a test lets through
pub passes : {X : Type 0} (test : Bool) (x : Option X) (y : X) → cond test x None ≡ Some y → (test ≡ true) × (x ≡ Some y)
passes true x y is = (refl, is)
passes false x y is = absurd (cc is)

pub passed : {X : Type 0} (test : Bool) (x y : X) → cond test (Some x) None ≡ Some y → (test ≡ true) × (x ≡ y)
passed test x y is = let both = passes test (Some x) y is in (both.0, some_same both.1)

pub eqb_apart : (x y : ℕ) → (x == y) ≡ false → x ≡ y → ⊥
eqb_apart x y is same = let wrong : true ≡ false = sym (eq-eqb x y same) ∙ is in cc wrong
