-- What one entry names that came where nothing was recovered.
use Rattle.std.proofs.Common.{◌≡◌, List, [], ◌∷◌, ◌++◌, subst}
use Rattle.std.specs.List.{All, Contains}
use Rattle.dura_value.specs.Dependencies.{Committed, Founded, named_by}
use Rattle.dura_value.specs.Dependencies.Founded.{none, one_more}

-- the only entry that came names entries that were recovered, of which there are none
not_one : (first last e : Committed) (more : List Committed) → first ∷ (more ++ last ∷ []) ≡ e ∷ [] → ⊥
not_one first last e [] is = cc is
not_one first last e (next ∷ more) is = cc is

pub one_founded : {entries : List Committed} → Founded [] entries → (e : Committed) → entries ≡ e ∷ [] → All (Contains []) (named_by e.items)
one_founded none e is = absurd (cc is)
one_founded (one_more {entries = []} last before it) e is = let same : last ≡ e = cc is in subst (λ (x : Committed). All (Contains []) (named_by x.items)) same it.named
one_founded (one_more {entries = first ∷ more} last before it) e is = absurd (not_one first last e more is)
