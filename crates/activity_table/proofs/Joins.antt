-- Texts one after another, one text at a time.
use Rattle.std.proofs.Common.{◌≡◌, ◌++◌, ℕ, List, [], Option, Some, None, refl, ap, sym}
use Rattle.std.proofs.lemmas.List.{append_assoc, append-nil}
use Rattle.activity_table.specs.Table.{before}

pub before_twice : (a b : List ℕ) (rest : Option (List ℕ)) → before a (before b rest) ≡ before (a ++ b) rest
before_twice a b None = refl
before_twice a b (Some rest) = ap Some (sym (append_assoc a b rest))

pub before_nothing : (a : List ℕ) → before a (Some []) ≡ Some a
before_nothing a = ap Some (append-nil a)

pub nothing_before : (rest : Option (List ℕ)) → before [] rest ≡ rest
nothing_before None = refl
nothing_before (Some rest) = refl
