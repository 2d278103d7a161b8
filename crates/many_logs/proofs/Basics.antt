-- Small facts on options and tests.
use Rattle.std.proofs.Common.{◌≡◌, ◌==◌, ℕ, Bool, true, false, Option, Some, None, refl, eq-eqb, eqb-true}

-- what is not the same number
pub apart_eqb : (a b : ℕ) → (a ≡ b → ⊥) → (a == b) ≡ false
apart_eqb a b apart = by (a == b) refl
  where
    by : (test : Bool) → (a == b) ≡ test → (a == b) ≡ false
    by true same = absurd (apart (eqb-true a b same))
    by false is = is

pub self_eqb : (a : ℕ) → (a == a) ≡ true
self_eqb a = eq-eqb a a refl
