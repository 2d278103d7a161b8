-- The digest of what was joined goes on from part to part.
use Rattle.std.proofs.Common.{◌≡◌, ℕ, List, ◌++◌}
use Rattle.std.specs.Prelude.{fold}
use Rattle.std.proofs.lemmas.List.Sums.{fold-append}
use Rattle.dura_value.specs.Digest.{fnv_byte}

pub joined : (hash : ℕ) (front back : List ℕ) → fold fnv_byte hash (front ++ back) ≡ fold fnv_byte (fold fnv_byte hash front) back
joined hash front back = fold-append fnv_byte hash front back
