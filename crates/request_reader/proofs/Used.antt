-- What becomes of a request by whether its number was used.
use Rattle.std.proofs.Common.{◌≡◌, ◌<◌, ◌≤◌, ℕ, List, [], ◌∷◌, ◌++◌, arith, true, false, Bool, Option, Some, None, Ok, Err, refl}
use Rattle.std.specs.Prelude.{option_map, nat_lt}
use Rattle.std.specs.List.{find}
use Rattle.std.proofs.lemmas.Bool.Decides.{nat_tests}
use Rattle.request_reader.specs.Line.{Request}
use Rattle.request_reader.specs.Requests.{bad_line, clash, latest, request_eq, is_by, with_new, with_request}

found : (f : Request → Bool) (o : Option Request) (b : Bool) → Some b ≡ option_map f o → (r : Request) × (o ≡ Some r) × (f r ≡ b)
found f (Some r) b is = (r, refl, cc)
found f None b is = absurd (cc is)

pub used_same : (line : ℕ) (rs : List Request) (r : Request) → Some true ≡ option_map (λ e. request_eq e r) (find (is_by r.client r.number) rs) → with_request line rs r ≡ Ok rs
used_same line rs r is = let at = found (λ e. request_eq e r) (find (is_by r.client r.number) rs) true is in rw (at.1, at.2) refl

pub used_other : (line : ℕ) (rs : List Request) (r : Request) → Some false ≡ option_map (λ e. request_eq e r) (find (is_by r.client r.number) rs) → with_request line rs r ≡ Err (clash r.client r.number)
used_other line rs r is = let at = found (λ e. request_eq e r) (find (is_by r.client r.number) rs) false is in rw (at.1, at.2) refl

pub unused : (f : Request → Bool) (o : Option Request) → None ≡ option_map f o → o ≡ None
unused f (Some r) is = absurd (cc is)
unused f None is = refl

pub unused_new : (line : ℕ) (rs : List Request) (r : Request) → None ≡ option_map (λ e. request_eq e r) (find (is_by r.client r.number) rs) → with_request line rs r ≡ with_new line rs r
unused_new line rs r is = rw (unused (λ e. request_eq e r) (find (is_by r.client r.number) rs) is) refl

-- the client's requests so far have smaller numbers
pub new_read : (line : ℕ) (rs after : List Request) (r : Request) (n : ℕ) → n ≡ latest r.client rs → n < r.number → after ≡ rs ++ r ∷ [] → with_new line rs r ≡ Ok after
new_read line rs after r n is below pushed = let passes : nat_lt (latest r.client rs) r.number ≡ true = grind (arith, nat_tests) in rw (passes, pushed) refl

-- one of the client's requests so far has no smaller number
pub new_refused : (line : ℕ) (rs : List Request) (r : Request) (n : ℕ) → n ≡ latest r.client rs → r.number ≤ n → with_new line rs r ≡ Err (bad_line line)
new_refused line rs r n is above = let fails : nat_lt (latest r.client rs) r.number ≡ false = grind (arith, nat_tests) in rw fails refl
