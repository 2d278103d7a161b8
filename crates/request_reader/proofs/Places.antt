-- Where the first request that passes a test stands, and what stays true where a request comes behind the others.
use Rattle.std.proofs.Common.{◌≡◌, ℕ, suc, Bor, get_or, ◌+◌, ◌-◌, ◌≤◌, List, [], ◌∷◌, ◌++◌, length, true, false, Bool, cond, Option, Some, None, refl, ap, sym, ◌∙◌, arith, zero-add, add-zero}
use Rattle.std.specs.Prelude.{map, option_map, unwrap_or, ◌==◌, ◌&&◌, nat_lt, is_some, IfSome}
use Rattle.std.specs.List.{find, position_from, slice_get}
use Rattle.std.specs.Option.{option_or}
use Rattle.std.specs.Ordering.{nat_cmp, ordering_then, is_eq}
use Rattle.std.specs.Cmp.{unsigned_ties}
use Rattle.std.specs.Cmp.Lexicographic.{slice_cmp}
use Rattle.std.specs.Str.{bytes_eq}
use Rattle.std.proofs.lemmas.Option.{slice_get-map, slice_get-get_or, slice_get_past}
use Rattle.std.proofs.lemmas.List.Sums.{fold-append}
use Rattle.std.proofs.lemmas.Map.Text.{is_eq-slice_cmp}
use Rattle.std.proofs.lemmas.Bool.{eqb-true, ltb-true, and_parts, ltb-false}
use Rattle.std.specs.declared.cmp.Ordering.{Ordering}
use Rattle.std.specs.declared.cmp.Ordering.TheVariants.{Less, Equal, Greater}
use Rattle.dura_value.specs.declared.messages.Request.{Request as OwnRequest}
use Rattle.request_reader.specs.Line.{Request, request_of}
use Rattle.request_reader.specs.Requests.{is_by, latest}
use Rattle.dura_value.proofs.Ids.{same_bytes}
use Rattle.dura_value.proofs.Basics.{position_low}

tail_get : {X : Type 0} (x : X) (xs : List X) (i k : ℕ) → k + 1 ≤ i → slice_get (x ∷ xs) (i - k) ≡ slice_get xs (i - (k + 1))
tail_get x xs i k low = let e : i - k ≡ suc (i - (k + 1)) = omega arith in rw e refl

found_by : {X : Type 0} (x : X) (xs : List X) (k i : ℕ) (b : Bool) (o : Option ℕ) (it : Option X) → (o ≡ Some i → slice_get (x ∷ xs) (i - k) ≡ it) → cond b (Some k) o ≡ Some i → slice_get (x ∷ xs) (i - k) ≡ cond b (Some x) it
found_by x xs k i true o it rest is = let none : i - k ≡ 0 = (let same : k ≡ i = cc in omega arith) in rw none refl
found_by x xs k i false o it rest is = rest is

found_from : {X : Type 0} (p : X → Bool) (k i : ℕ) (xs : List X) → position_from p k xs ≡ Some i → slice_get xs (i - k) ≡ find p xs
found_from p k i [] at = absurd (cc at)
found_from p k i (x ∷ xs) at = found_by x xs k i (p x) (position_from p (k + 1) xs) (find p xs) (λ is. tail_get x xs i k (position_low p (k + 1) i xs is) ∙ found_from p (k + 1) i xs is) at

pub found : (p : Request → Bool) (xs : List OwnRequest) (i : ℕ) → position_from p 0 (map request_of xs) ≡ Some i → option_map request_of (slice_get xs i) ≡ find p (map request_of xs)
found p xs i at = let first : i ≡ i - 0 = omega arith in sym (slice_get-map request_of xs i) ∙ ap (slice_get (map request_of xs)) first ∙ found_from p 0 i (map request_of xs) at

none_by : {X Y : Type 0} (x : X) (y : Y) (b : Bool) (o : Option X) (it : Option Y) → (o ≡ None → it ≡ None) → cond b (Some x) o ≡ None → cond b (Some y) it ≡ None
none_by x y true o it rest is = absurd (cc is)
none_by x y false o it rest is = rest is

pub missing : {X : Type 0} (p : X → Bool) (k : ℕ) (xs : List X) → position_from p k xs ≡ None → find p xs ≡ None
missing p k [] at = refl
missing p k (x ∷ xs) at = none_by k x (p x) (position_from p (k + 1) xs) (find p xs) (missing p (k + 1) xs) at

no_place : {X : Type 0} (p : X → Bool) (k : ℕ) (xs : List X) → find p xs ≡ None → position_from p k xs ≡ None
no_place p k [] at = refl
no_place p k (x ∷ xs) at = none_by x k (p x) (find p xs) (position_from p (k + 1) xs) (no_place p (k + 1) xs) at

behind_by : {X : Type 0} (x : X) (b : Bool) (o before after : Option X) → o ≡ option_or before after → cond b (Some x) o ≡ option_or (cond b (Some x) before) after
behind_by x true o before after is = refl
behind_by x false o before after is = is

pub place_behind : {X : Type 0} (p : X → Bool) (k : ℕ) (xs : List X) (x : X) → position_from p k (xs ++ x ∷ []) ≡ option_or (position_from p k xs) (cond (p x) (Some (k + length xs)) None)
place_behind p k [] x = rw add-zero refl
place_behind p k (y ∷ ys) x = let longer : k + length (y ∷ ys) ≡ k + 1 + length ys = omega arith in
    behind_by k (p y) (position_from p (k + 1) (ys ++ x ∷ [])) (position_from p (k + 1) ys) (cond (p x) (Some (k + length (y ∷ ys))) None) (rw longer (place_behind p (k + 1) ys x))

pub or_none : {X : Type 0} (o : Option X) → option_or o None ≡ o
or_none (Some x) = refl
or_none None = refl

same_numbers : (m n : ℕ) → m == n ≡ true → m ≡ n
same_numbers m n is = eqb-true m n is

pub places_after : (rs : List Request) (r : Request) (name : List ℕ) (n : ℕ) (old new : Option ℕ) (test : Bool) → test ≡ is_by name n r → new ≡ cond test (Some (length rs)) old → old ≡ position_from (is_by name n) 0 rs → find (is_by r.client r.number) rs ≡ None → new ≡ position_from (is_by name n) 0 (rs ++ r ∷ [])
places_after rs r name n old new true is set before free =
    let words = and_parts (bytes_eq r.client name) (r.number == n) (sym is) in
    let client = same_bytes r.client name words.0 in
    let number = same_numbers r.number n words.1 in
    let none : position_from (is_by name n) 0 rs ≡ None = no_place (is_by name n) 0 rs (rw (← client, ← number) free) in
    set ∙ sym (place_behind (is_by name n) 0 rs r ∙ rw (none, ← is, zero-add) refl)
places_after rs r name n old new false is set before free =
    set ∙ before ∙ sym (place_behind (is_by name n) 0 rs r ∙ rw (← is) (or_none (position_from (is_by name n) 0 rs)))

pub numbers_after : (rs : List Request) (r : Request) (name : List ℕ) (old new : Option ℕ) (test : Bool) → test ≡ bytes_eq r.client name → new ≡ cond test (Some r.number) old → unwrap_or old 0 ≡ latest name rs → unwrap_or new 0 ≡ latest name (rs ++ r ∷ [])
numbers_after rs r name old new true is set before = rw set (sym (fold-append _ 0 rs (r ∷ []) ∙ rw (← is) refl))
numbers_after rs r name old new false is set before = rw set (before ∙ sym (fold-append _ 0 rs (r ∷ []) ∙ rw (← is) refl))

eq_then : (m n : ℕ) → is_eq (nat_cmp m n) ≡ m == n
eq_then m n = sym (unsigned_ties m n)

eq_both : (o p : Ordering) → is_eq (ordering_then o p) ≡ is_eq o && is_eq p
eq_both Less p = refl
eq_both Equal p = refl
eq_both Greater p = refl

-- two pairs of a client and a number are the same where and_parts are
pub same_pair : (a b : List ℕ) (m n : ℕ) → is_eq (ordering_then (slice_cmp nat_cmp a b) (nat_cmp m n)) ≡ bytes_eq a b && m == n
same_pair a b m n = eq_both (slice_cmp nat_cmp a b) (nat_cmp m n) ∙ rw (is_eq-slice_cmp a b, eq_then m n) refl

-- what a look at a place gives
pub got : (o : Option (Bor OwnRequest)) (xs : List OwnRequest) (i : ℕ) → is_some o ≡ nat_lt i (length xs) → IfSome o (λ x. x.now ≡ get_or xs i x.now) → option_map (λ r. request_of r.now) o ≡ option_map request_of (slice_get xs i)
got (Some x) xs i there is = rw (slice_get-get_or xs i x.now (ltb-true i (length xs) (sym there)), ← is) refl
got None xs i there is = rw (slice_get_past xs i (ltb-false i (length xs) (sym there))) refl
