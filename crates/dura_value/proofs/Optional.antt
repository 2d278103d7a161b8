-- What is there was made from what is there.
use Rattle.std.proofs.Common.{◌≡◌, Option, Some, None, refl}
use Rattle.dura_value.specs.Optional.{◌>>=◌}

pub both_there : {X Y : Type 0} (o : Option X) (f : X → Option Y) (y : Y) → (o >>= f) ≡ Some y → (x : X) × (o ≡ Some x) × (f x ≡ Some y)
both_there None f y is = absurd (cc is)
both_there (Some x) f y is = (x, refl, is)
