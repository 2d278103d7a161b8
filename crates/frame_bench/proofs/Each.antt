-- What holds of each member holds of one more.
use Rattle.std.proofs.Common.{◌≡◌, List, [], ◌∷◌, ◌++◌, map}
use Rattle.std.specs.List.{All}
use Rattle.std.proofs.lemmas.List.{map_push}
use Rattle.std.proofs.lemmas.List.Elements.{All-push}

pub one_more : {X Y : Type 0} (P : Y → Type 0) (f : X → Y) (xs ys : List X) (x : X) → ys ≡ xs ++ x ∷ [] → All P (map f xs) → P (f x) → All P (map f ys)
one_more P f xs ys x is all here = rw is (rw (map_push f xs x) (All-push P (map f xs) (f x) all here))
