-- All bytes pass where as many of the first ones pass as there are.
use Rattle.std.proofs.Common.{◌≡◌, ◌==◌, ◌+◌, ◌&&◌, ◌∙◌, ℕ, suc, List, [], ◌∷◌, length, Bool, true, false, cond, refl, ap, arith}
use Rattle.std.proofs.Math.Dec.{eqb-suc-suc, eqb-zero-suc}
use Rattle.std.specs.List.{list_all, prefix_len}

one_more : (m n : ℕ) → (1 + m == suc n) ≡ (m == n)
one_more m n = let same : 1 + m ≡ suc m = omega arith in ap (λ (k : ℕ). k == suc n) same ∙ eqb-suc-suc m n

pub prefix_whole : (p : ℕ → Bool) (xs : List ℕ) → (prefix_len p xs == length xs) ≡ list_all p xs
prefix_whole p [] = refl
prefix_whole p (x ∷ xs) = elim (p x) as (λ b. (cond b (1 + prefix_len p xs) 0 == suc (length xs)) ≡ (b && list_all p xs)) [
  | true ↦ one_more (prefix_len p xs) (length xs) ∙ prefix_whole p xs
  | false ↦ eqb-zero-suc (length xs)
]
