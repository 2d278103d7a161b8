-- Where no event of a name is kept, all stay.
use Rattle.std.proofs.Common.{◌≡◌, ℕ, List, [], ◌∷◌, Bool, true, false, Some, None, refl, ap, cond}
use Rattle.std.specs.Str.{bytes_eq}
use Rattle.flow_syntax.specs.Machine.{Raised, kept_value, without_kept}

at_first : (b : Bool) (one : Raised) (more : List Raised) (name : List ℕ) → cond b (Some one.value) (kept_value name more) ≡ None → (kept_value name more ≡ None → without_kept name more ≡ more) → cond b more (one ∷ without_kept name more) ≡ one ∷ more
at_first true one more name is same = absurd (cc is)
at_first false one more name is same = ap (λ (ks : List Raised). one ∷ ks) (same is)

pub none_kept : (name : List ℕ) (kept : List Raised) → kept_value name kept ≡ None → without_kept name kept ≡ kept
none_kept name [] is = refl
none_kept name (one ∷ more) is = at_first (bytes_eq one.name name) one more name is (none_kept name more)
