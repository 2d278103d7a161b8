-- How far bytes begin a name, a slash and a key.
use Rattle.std.proofs.Common.{◌≡◌, ◌∙◌, ◌<◌, ◌≤◌, ◌+◌, ◌-◌, ℕ, zero, suc, List, [], ◌∷◌, ◌++◌, length, take, drop, min, Bool, true, false, not, cond, nat_lt, refl, ap, sym, subst, arith, append_assoc, Result, Ok, Err, if◌then◌else◌}
use Rattle.std.proofs.lemmas.Bool.{ltb-true, ltb-false, and_parts}
use Rattle.std.proofs.lemmas.Bool.Decides.{nat_tests}
use Rattle.std.proofs.lemmas.List.{length-take-le, length-drop}
use Rattle.std.proofs.lemmas.List.Sums.{prefix_len-le-length}
use Rattle.std.specs.List.{list_all, prefix_len}
use Rattle.std.specs.Char.{is_ascii_alphabetic}
use Rattle.dura_value.specs.Names.{is_name, is_key, goes_on_name}
use Rattle.dura_value.specs.Reading.{◌>>=◌, name_front, key_front, key_at, is_slash, pair_at}
use Rattle.dura_value.proofs.Ids.{and_true}
use Rattle.id_laws.specs.Begins.{IsName, IsKey, StopsAt}
use Rattle.id_laws.proofs.Order.{above_slash, name_goes_on}
use Rattle.id_laws.proofs.WordFronts.{front_passes, name_stops, key_stops}

-- a name, a slash and a key
abbrev pub IsPair : List ℕ → Type 0
IsPair bytes = (name : List ℕ) × (key : List ℕ) × (is_name name ≡ true) × (is_key key ≡ true) × (name ++ 47 ∷ key ≡ bytes)

abbrev pub no_slash : ℕ → Bool
no_slash byte = not (is_slash byte)

abbrev place_in : List ℕ → ℕ
place_in bytes = prefix_len no_slash bytes

slash_is : (a : ℕ) → no_slash a ≡ true → a ≡ 47 → ⊥
slash_is a passes is = let other : no_slash 47 ≡ true = subst (λ (b : ℕ). no_slash b ≡ true) is passes in cc other

-- what stands before the first slash, and what behind it
by_slash : (x y k l : List ℕ) → list_all no_slash x ≡ true → list_all no_slash y ≡ true → x ++ 47 ∷ k ≡ y ++ 47 ∷ l → (x ≡ y) × (k ≡ l)
by_slash [] [] k l first second is = (refl, cc is)
by_slash [] (b ∷ y) k l first second is = let same : b ≡ 47 = cc is in absurd (slash_is b (and_parts (no_slash b) (list_all no_slash y) second).0 same)
by_slash (a ∷ x) [] k l first second is = let same : a ≡ 47 = cc is in absurd (slash_is a (and_parts (no_slash a) (list_all no_slash x) first).0 same)
by_slash (a ∷ x) (b ∷ y) k l first second is =
    let head : a ≡ b = cc is in
    let tail : x ++ 47 ∷ k ≡ y ++ 47 ∷ l = cc is in
    let rest = by_slash x y k l (and_parts (no_slash a) (list_all no_slash x) first).1 (and_parts (no_slash b) (list_all no_slash y) second).1 tail in
    (ap (λ (c : ℕ). c ∷ x) head ∙ ap (λ (z : List ℕ). b ∷ z) rest.0, rest.1)

-- what has no slash lies before the first one
before_slash : (w x rest k : List ℕ) → list_all no_slash w ≡ true → x ++ 47 ∷ k ≡ w ++ rest → (r : List ℕ) × (x ≡ w ++ r)
before_slash [] x rest k none is = (x, refl)
before_slash (a ∷ w) [] rest k none is = let same : a ≡ 47 = cc is in absurd (slash_is a (and_parts (no_slash a) (list_all no_slash w) none).0 same)
before_slash (a ∷ w) (b ∷ x) rest k none is =
    let head : b ≡ a = cc is in
    let tail : x ++ 47 ∷ k ≡ w ++ rest = cc is in
    let more = before_slash w x rest k (and_parts (no_slash a) (list_all no_slash w) none).1 tail in
    (more.0, ap (λ (c : ℕ). c ∷ x) head ∙ ap (λ (z : List ℕ). a ∷ z) more.1)

names_have_none : (x : List ℕ) → list_all goes_on_name x ≡ true → list_all no_slash x ≡ true
names_have_none [] all = refl
names_have_none (a ∷ x) all =
    let parts = and_parts (goes_on_name a) (list_all goes_on_name x) all in
    let above : 47 < a = above_slash a parts.0 in
    and_true (no_slash a) (list_all no_slash x) (grind (arith, nat_tests)) (names_have_none x parts.1)

pub name_has_none : (x : List ℕ) → is_name x ≡ true → list_all no_slash x ≡ true
name_has_none x is = names_have_none x (name_goes_on x is)

slash_true : (a : ℕ) → not (is_slash a) ≡ false → a ≡ 47
slash_true a is = grind (arith, nat_tests)

slash_next : (n : ℕ) (xs : List ℕ) → n ≡ place_in xs → n < length xs → take (suc n) xs ≡ take n xs ++ 47 ∷ []
slash_next n [] is more = absurd (omega arith)
slash_next zero (x ∷ xs) is more =
    (elim (no_slash x) as (λ b. no_slash x ≡ b → 0 ≡ cond b (1 + prefix_len no_slash xs) 0 → x ∷ take 0 xs ≡ 47 ∷ []) [
      | true ↦ λ test h. absurd (omega arith)
      | false ↦ λ test h. ap (λ (c : ℕ). c ∷ []) (slash_true x test)
    ]) refl is
slash_next (suc n) (x ∷ xs) is more =
    (elim (no_slash x) as (λ b. suc n ≡ cond b (1 + prefix_len no_slash xs) 0 → x ∷ take (suc n) xs ≡ x ∷ (take n xs ++ 47 ∷ [])) [
      | true ↦ λ h. ap (λ (z : List ℕ). x ∷ z) (slash_next n xs (omega arith) (omega arith))
      | false ↦ λ h. absurd (omega arith)
    ]) is

pub parts_of : (n : ℕ) (xs : List ℕ) → n ≡ place_in xs → n < length xs → xs ≡ take n xs ++ 47 ∷ drop (suc n) xs
parts_of n [] is more = absurd (omega arith)
parts_of zero (x ∷ xs) is more =
    (elim (no_slash x) as (λ b. no_slash x ≡ b → 0 ≡ cond b (1 + prefix_len no_slash xs) 0 → x ∷ xs ≡ 47 ∷ drop 0 xs) [
      | true ↦ λ test h. absurd (omega arith)
      | false ↦ λ test h. ap (λ (c : ℕ). c ∷ xs) (slash_true x test)
    ]) refl is
parts_of (suc n) (x ∷ xs) is more =
    (elim (no_slash x) as (λ b. suc n ≡ cond b (1 + prefix_len no_slash xs) 0 → x ∷ xs ≡ x ∷ (take n xs ++ 47 ∷ drop (suc n) xs)) [
      | true ↦ λ h. ap (λ (z : List ℕ). x ∷ z) (parts_of n xs (omega arith) (omega arith))
      | false ↦ λ h. absurd (omega arith)
    ]) is

take_within : (n m : ℕ) (xs : List ℕ) → n ≤ m → take n (take m xs) ≡ take n xs
take_within zero m xs few = refl
take_within (suc n) zero xs few = absurd (omega arith)
take_within (suc n) (suc m) [] few = refl
take_within (suc n) (suc m) (x ∷ xs) few = ap (λ (z : List ℕ). x ∷ z) (take_within n m xs (omega arith))

take_past : (t d : List ℕ) (c n k : ℕ) → n ≡ length t + k → take (suc n) (t ++ c ∷ d) ≡ t ++ c ∷ take k d
take_past [] d c n k is = let same : n ≡ k = omega arith in ap (λ (j : ℕ). c ∷ take j d) same
take_past (x ∷ t) d c zero k is = absurd (omega arith)
take_past (x ∷ t) d c (suc n) k is = ap (λ (z : List ℕ). x ∷ z) (take_past t d c n k (omega arith))

name_front_short : (bytes : List ℕ) → name_front bytes ≤ length bytes
name_front_short [] = omega arith
name_front_short (x ∷ xs) =
    let few : prefix_len goes_on_name xs ≤ length xs = prefix_len-le-length goes_on_name xs in
    elim (is_ascii_alphabetic x) as (λ b. (if b then min 64 (suc (prefix_len goes_on_name xs)) else 0) ≤ suc (length xs)) [ true ↦ omega arith | false ↦ omega arith ]

place_short : (bytes : List ℕ) → place_in bytes ≤ length bytes
place_short bytes = prefix_len-le-length no_slash bytes

first_part_long : (bytes : List ℕ) → length (take (place_in bytes) bytes) ≡ place_in bytes
first_part_long bytes = length-take-le (place_in bytes) bytes (place_short bytes)

-- what stands before the slash is no name
bad_name : (bytes : List ℕ) → is_name (take (place_in bytes) bytes) ≡ false → StopsAt IsPair bytes (name_front (take (place_in bytes) bytes))
bad_name bytes bad =
    let place : ℕ = place_in bytes in
    let t : List ℕ = take place bytes in
    let n : ℕ = name_front t in
    let s : StopsAt IsName t n = name_stops t in
    let long : length t ≡ place = first_part_long bytes in
    let short : n ≤ length t = name_front_short t in
    let same : take n t ≡ take n bytes = take_within n place bytes (omega arith) in
    record {
      front =
          let r : List ℕ = s.front.0 in
          (r ++ 47 ∷ 97 ∷ [], (take n bytes ++ r, 97 ∷ [], subst (λ (z : List ℕ). is_name (z ++ r) ≡ true) same s.front.1, refl, append_assoc (take n bytes) r (47 ∷ 97 ∷ [])));
      longest = λ more begun.
          let rest : List ℕ = begun.0 in
          let nm : List ℕ = begun.1.0 in
          let ky : List ℕ = begun.1.1 in
          let is : is_name nm ≡ true = begun.1.2 in
          let whole : nm ++ 47 ∷ ky ≡ take (suc n) bytes ++ rest = begun.1.4 in
          (elim (nat_lt n place) as (λ b. nat_lt n place ≡ b → ⊥) [
            | true ↦ λ test.
                let fewer : n < place = ltb-true n place test in
                let more_same : take (suc n) t ≡ take (suc n) bytes = take_within (suc n) place bytes (omega arith) in
                let before = before_slash (take (suc n) bytes) nm rest ky (front_passes no_slash (suc n) bytes (omega arith)) whole in
                let r : List ℕ = before.0 in
                let name : is_name (take (suc n) t ++ r) ≡ true = subst (λ (z : List ℕ). is_name z ≡ true) (before.1 ∙ ap (λ (z : List ℕ). z ++ r) (sym more_same)) is in
                s.longest (omega arith) (r, name)
            | false ↦ λ test.
                let none_fewer : place ≤ n = ltb-false n place test in
                let at : n ≡ place = omega arith in
                let next : take (suc n) bytes ≡ take n bytes ++ 47 ∷ [] = slash_next n bytes at more in
                let all : take n bytes ≡ t = ap (λ (j : ℕ). take j bytes) at in
                let split : nm ++ 47 ∷ ky ≡ t ++ 47 ∷ rest = whole ∙ ap (λ (z : List ℕ). z ++ rest) (next ∙ ap (λ (z : List ℕ). z ++ 47 ∷ []) all) ∙ append_assoc t (47 ∷ []) rest in
                let parts = by_slash nm t ky rest (name_has_none nm is) (front_passes no_slash place bytes (omega arith)) split in
                let good : is_name t ≡ true = subst (λ (z : List ℕ). is_name z ≡ true) parts.0 is in
                cc (good, bad)
          ]) refl;
    }

-- there is no slash
no_slash_there : (bytes : List ℕ) → is_name (take (place_in bytes) bytes) ≡ true → length bytes ≤ place_in bytes → StopsAt IsPair bytes (place_in bytes)
no_slash_there bytes good past = record {
  front = (47 ∷ 97 ∷ [], (take (place_in bytes) bytes, 97 ∷ [], good, refl, refl));
  longest = λ more begun. absurd (omega arith);
}

-- what stands behind the slash is no key
bad_key : (bytes : List ℕ) → is_name (take (place_in bytes) bytes) ≡ true → place_in bytes < length bytes
    → StopsAt IsPair bytes (suc (place_in bytes + key_front (drop (suc (place_in bytes)) bytes)))
bad_key bytes good more_there =
    let place : ℕ = place_in bytes in
    let t : List ℕ = take place bytes in
    let d : List ℕ = drop (suc place) bytes in
    let kf : ℕ = key_front d in
    let s : StopsAt IsKey d kf = key_stops d in
    let long : length t ≡ place = first_part_long bytes in
    let whole : bytes ≡ t ++ 47 ∷ d = parts_of place bytes refl more_there in
    let taken : take (suc (place + kf)) bytes ≡ t ++ 47 ∷ take kf d = ap (take (suc (place + kf))) whole ∙ take_past t d 47 (place + kf) kf (omega arith) in
    let taken_more : take (suc (suc (place + kf))) bytes ≡ t ++ 47 ∷ take (suc kf) d = ap (take (suc (suc (place + kf)))) whole ∙ take_past t d 47 (suc (place + kf)) (suc kf) (omega arith) in
    let rest_long : length d ≡ length bytes - suc place = length-drop (suc place) bytes in
    record {
      front =
          let r : List ℕ = s.front.0 in
          (r, (t, take kf d ++ r, good, s.front.1, sym (ap (λ (z : List ℕ). z ++ r) taken ∙ append_assoc t (47 ∷ take kf d) r)));
      longest = λ more begun.
          let rest : List ℕ = begun.0 in
          let nm : List ℕ = begun.1.0 in
          let ky : List ℕ = begun.1.1 in
          let split : nm ++ 47 ∷ ky ≡ t ++ 47 ∷ (take (suc kf) d ++ rest) = begun.1.4 ∙ ap (λ (z : List ℕ). z ++ rest) taken_more ∙ append_assoc t (47 ∷ take (suc kf) d) rest in
          let parts = by_slash nm t ky (take (suc kf) d ++ rest) (name_has_none nm begun.1.2) (front_passes no_slash place bytes (omega arith)) split in
          let key : is_key (take (suc kf) d ++ rest) ≡ true = subst (λ (z : List ℕ). is_key z ≡ true) parts.1 begun.1.3 in
          s.longest (omega arith) (rest, key);
    }

pub pair_stops : (at : ℕ) (bytes : List ℕ) (m : ℕ) → pair_at at bytes ≡ Err m → (n : ℕ) × (m ≡ at + n) × StopsAt IsPair bytes n
unfolding pair_at
pair_stops at bytes m is =
    let place : ℕ = place_in bytes in
    let t : List ℕ = take place bytes in
    let d : List ℕ = drop (place + 1) bytes in
    let Stops : Type 0 = (n : ℕ) × (m ≡ at + n) × StopsAt IsPair bytes n in
    let pair : List ℕ → List ℕ → Result (List ℕ × List ℕ) ℕ = λ name key. Ok (name, key) in
    let keyed : List ℕ → Result (List ℕ × List ℕ) ℕ = λ name. key_at (at + place + 1) d >>= pair name in
    let after : List ℕ → Result (List ℕ × List ℕ) ℕ = λ name. if nat_lt place (length bytes) then keyed name else Err (at + place) in
    (elim (is_name t) as (λ b. is_name t ≡ b → ((if b then Ok t else Err (at + name_front t)) >>= after) ≡ Err m → Stops) [
      | true ↦ λ good h.
          (elim (nat_lt place (length bytes)) as (λ b. nat_lt place (length bytes) ≡ b → (if b then keyed t else Err (at + place)) ≡ Err m → Stops) [
            | true ↦ λ test k.
                (elim (is_key d) as (λ b. ((if b then Ok d else Err (at + place + 1 + key_front d)) >>= pair t) ≡ Err m → Stops) [
                  | true ↦ λ q. absurd (cc q)
                  | false ↦ λ q.
                      let fault : at + place + 1 + key_front d ≡ m = cc q in
                      let one : place + 1 ≡ suc place = omega arith in
                      let same : key_front d ≡ key_front (drop (suc place) bytes) = ap (λ (j : ℕ). key_front (drop j bytes)) one in
                      (suc (place + key_front (drop (suc place) bytes)), omega arith, bad_key bytes good (ltb-true place (length bytes) test))
                ]) k
            | false ↦ λ test k.
                let fault : at + place ≡ m = cc k in
                (place, sym fault, no_slash_there bytes good (ltb-false place (length bytes) test))
          ]) refl h
      | false ↦ λ bad h.
          let fault : at + name_front t ≡ m = cc h in
          (name_front t, sym fault, bad_name bytes bad)
    ]) refl is
