-- The order of byte strings.
use Rattle.std.specs.Prelude.{ℕ, ◌==◌, ◌&&◌, ◌||◌, List, [], ◌∷◌, Bool, true, false, nat_lt}

-- the first byte that differs is less, or the first string ends where the second goes on
abbrev pub bytes_before : List ℕ → List ℕ → Bool
bytes_before xs [] = false
bytes_before [] (y ∷ ys) = true
bytes_before (x ∷ xs) (y ∷ ys) = nat_lt x y || (x == y && bytes_before xs ys)
