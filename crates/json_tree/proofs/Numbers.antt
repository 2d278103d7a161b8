-- A number by its first byte.
use Rattle.std.proofs.Common.{◌≡◌, ℕ, List, [], ◌∷◌, length, true, false, refl, arith, ne_eqb}
use Rattle.fast_float.specs.Text.{scan}
use Rattle.serde_json.specs.Read.{number_of, number_from}

pub behind_minus : (s digits : List ℕ) (first : ℕ) → s ≡ first ∷ digits → first ≡ 45 → number_of s ≡ number_from true (scan digits)
unfolding number_of
behind_minus s digits first is minus = rw (is, minus) refl

pub without_minus : (s digits : List ℕ) (first : ℕ) → s ≡ first ∷ digits → ¬ first ≡ 45 → number_of s ≡ number_from false (scan s)
unfolding number_of
without_minus s digits first is other = rw is (rw (ne_eqb first 45 other) refl)

pub of_nothing : (s : List ℕ) → length s ≡ 0 → number_of s ≡ number_from false (scan s)
unfolding number_of
of_nothing [] none = refl
of_nothing (x ∷ s) none = absurd (omega (arith, none))
