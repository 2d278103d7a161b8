-- The last digit of a number, behind the others.
use Rattle.std.proofs.Common.{◌≡◌, ◌-◌, ◌/◌, ◌%◌, ◌++◌, ℕ, zero, suc, [], ◌∷◌, refl, ap, arith}
use Rattle.run_causes.specs.Causes.{hex_digit, hex_digits}

pub last_digit : (count n : ℕ) → (count ≡ 0 → ⊥) → hex_digits count n ≡ hex_digits (count - 1) (n / 16) ++ hex_digit (n % 16) ∷ []
last_digit zero n some = absurd (some refl)
last_digit (suc count) n some = let same : count ≡ suc count - 1 = omega arith in ap (λ (c : ℕ). hex_digits c (n / 16) ++ hex_digit (n % 16) ∷ []) same
