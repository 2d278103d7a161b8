-- A walk over a list, seen by a view: what is left from a place on.
use Rattle.std.proofs.Common.{◌≡◌, ℕ, ◌+◌, ◌<◌, List, ◌∷◌, length, get_or, drop, map, refl, ap, add-one}
use Rattle.std.proofs.Math.Seq.{drop-cons}

-- the element at this place, and those behind it
pub one_left : {X Y : Type 0} (f : X → Y) (xs : List X) (i : ℕ) (x : X) → i < length xs → x ≡ get_or xs i x → map f (drop i xs) ≡ f x ∷ map f (drop (i + 1) xs)
one_left f xs i x lt at = let cons : drop i xs ≡ x ∷ drop (i + 1) xs = rw (add-one, drop-cons xs i x lt, ← at) refl in ap (map f) cons
