-- How far bytes begin a name or a key.
use Rattle.std.proofs.Common.{◌≡◌, ◌&&◌, ◌∙◌, ◌<◌, ◌≤◌, ◌+◌, ℕ, zero, suc, List, [], ◌∷◌, ◌++◌, length, take, min, Bool, true, false, cond, nat_le, if◌then◌else◌, refl, sym, subst, arith, length-append}
use Rattle.std.proofs.lemmas.Bool.{le-leb, leb-true, and_parts}
use Rattle.std.proofs.lemmas.List.{append-nil, length-take-le}
use Rattle.std.proofs.lemmas.List.Folds.{list_all-append}
use Rattle.std.proofs.lemmas.List.Sums.{prefix_len-le-length}
use Rattle.std.specs.List.{list_all, prefix_len}
use Rattle.std.specs.Char.{is_ascii_alphabetic}
use Rattle.dura_value.specs.Names.{goes_on_name, stands_in_key}
use Rattle.dura_value.specs.Reading.{name_front, key_front}
use Rattle.dura_value.proofs.Ids.{and_true}
use Rattle.id_laws.specs.Begins.{IsName, IsKey, Begins, StopsAt}

-- the first ones pass
pub front_passes : (p : ℕ → Bool) (n : ℕ) (xs : List ℕ) → n ≤ prefix_len p xs → list_all p (take n xs) ≡ true
front_passes p zero xs few = refl
front_passes p (suc n) [] few = refl
front_passes p (suc n) (x ∷ xs) few =
    (elim (p x) as (λ b. suc n ≤ cond b (1 + prefix_len p xs) 0 → (b && list_all p (take n xs)) ≡ true) [
      | true ↦ λ h. front_passes p n xs (omega arith)
      | false ↦ λ h. absurd (omega arith)
    ]) few

-- one more doesn't
pub next_fails : (p : ℕ → Bool) (n : ℕ) (xs : List ℕ) → n ≡ prefix_len p xs → n < length xs → list_all p (take (suc n) xs) ≡ false
next_fails p n [] is more = absurd (omega arith)
next_fails p zero (x ∷ xs) is more =
    (elim (p x) as (λ b. 0 ≡ cond b (1 + prefix_len p xs) 0 → (b && list_all p (take 0 xs)) ≡ false) [
      | true ↦ λ h. absurd (omega arith)
      | false ↦ λ h. refl
    ]) is
next_fails p (suc n) (x ∷ xs) is more =
    (elim (p x) as (λ b. suc n ≡ cond b (1 + prefix_len p xs) 0 → (b && list_all p (take (suc n) xs)) ≡ false) [
      | true ↦ λ h. next_fails p n xs (omega arith) (omega arith)
      | false ↦ λ h. refl
    ]) is

-- so nothing goes on behind them
pub goes_no_further : (p : ℕ → Bool) (n : ℕ) (xs rest : List ℕ) → n ≡ prefix_len p xs → n < length xs → list_all p (take (suc n) xs ++ rest) ≡ true → ⊥
goes_no_further p n xs rest is more all =
    let parts = and_parts (list_all p (take (suc n) xs)) (list_all p rest) (sym (list_all-append p (take (suc n) xs) rest) ∙ all) in
    let fails : list_all p (take (suc n) xs) ≡ false = next_fails p n xs is more in
    let passes : list_all p (take (suc n) xs) ≡ true = parts.0 in
    cc (fails, passes)

-- ---- names

name_from : (x : ℕ) (xs : List ℕ) (m : ℕ) → is_ascii_alphabetic x ≡ true → m ≡ min 63 (prefix_len goes_on_name xs) → StopsAt IsName (x ∷ xs) (suc m)
name_from x xs m letter is =
    let few : prefix_len goes_on_name xs ≤ length xs = prefix_len-le-length goes_on_name xs in
    let long : length (take m xs) ≡ m = length-take-le m xs (omega arith) in
    let whole : take m xs ++ [] ≡ take m xs = append-nil (take m xs) in
    record {
      front = (
        [],
        rw whole
            (and_true (nat_le (suc (length (take m xs))) 64) (is_ascii_alphabetic x && list_all goes_on_name (take m xs)) (le-leb (suc (length (take m xs))) 64 (omega arith))
            (and_true (is_ascii_alphabetic x) (list_all goes_on_name (take m xs)) letter (front_passes goes_on_name m xs (omega arith)))),
      );
      longest = λ more begun.
          let rest : List ℕ = begun.0 in
          let parts = and_parts (nat_le (suc (length (take (suc m) xs ++ rest))) 64) (is_ascii_alphabetic x && list_all goes_on_name (take (suc m) xs ++ rest)) begun.1 in
          let these = and_parts (is_ascii_alphabetic x) (list_all goes_on_name (take (suc m) xs ++ rest)) parts.1 in
          let longer : length (take (suc m) xs) ≡ suc m = length-take-le (suc m) xs (omega arith) in
          let sum : length (take (suc m) xs ++ rest) ≡ length (take (suc m) xs) + length rest = length-append (take (suc m) xs) rest in
          let small : suc (length (take (suc m) xs ++ rest)) ≤ 64 = leb-true (suc (length (take (suc m) xs ++ rest))) 64 parts.0 in
          goes_no_further goes_on_name m xs rest (omega arith) (omega arith) these.1;
    }

pub name_stops : (bytes : List ℕ) → StopsAt IsName bytes (name_front bytes)
name_stops [] = record { front = (97 ∷ [], refl); longest = λ more begun. absurd (omega arith) }
name_stops (x ∷ xs) =
    (elim (is_ascii_alphabetic x) as (λ b. is_ascii_alphabetic x ≡ b → StopsAt IsName (x ∷ xs) (if b then min 64 (suc (prefix_len goes_on_name xs)) else 0)) [
      | true ↦ λ letter.
          let same : suc (min 63 (prefix_len goes_on_name xs)) ≡ min 64 (suc (prefix_len goes_on_name xs)) = omega arith in
          subst (λ (n : ℕ). StopsAt IsName (x ∷ xs) n) same (name_from x xs (min 63 (prefix_len goes_on_name xs)) letter refl)
      | false ↦ λ letter. record {
        front = (97 ∷ [], refl);
        longest = λ more begun.
            let rest : List ℕ = begun.0 in
            let parts = and_parts (nat_le (suc (length (take 0 xs ++ rest))) 64) (is_ascii_alphabetic x && list_all goes_on_name (take 0 xs ++ rest)) begun.1 in
            let these = and_parts (is_ascii_alphabetic x) (list_all goes_on_name (take 0 xs ++ rest)) parts.1 in
            let is : is_ascii_alphabetic x ≡ true = these.0 in
            cc (letter, is);
      }
    ]) refl

-- ---- keys

key_front_is : (bytes : List ℕ) (m : ℕ) → m ≤ 64 → m ≤ prefix_len stands_in_key bytes → m ≤ length bytes → Begins IsKey (take m bytes)
key_front_is bytes zero small few short = (97 ∷ [], refl)
key_front_is bytes (suc m) small few short =
    let t : List ℕ = take (suc m) bytes in
    let long : length t ≡ suc m = length-take-le (suc m) bytes short in
    let whole : t ++ [] ≡ t = append-nil t in (
      [],
      rw whole
          (and_true (nat_le 1 (length t)) (nat_le (length t) 64 && list_all stands_in_key t) (le-leb 1 (length t) (omega arith))
          (and_true (nat_le (length t) 64) (list_all stands_in_key t) (le-leb (length t) 64 (omega arith)) (front_passes stands_in_key (suc m) bytes few))),
    )

pub key_stops : (bytes : List ℕ) → StopsAt IsKey bytes (key_front bytes)
key_stops bytes =
    let m : ℕ = min 64 (prefix_len stands_in_key bytes) in
    let few : prefix_len stands_in_key bytes ≤ length bytes = prefix_len-le-length stands_in_key bytes in
    record {
      front = key_front_is bytes m (omega arith) (omega arith) (omega arith);
      longest = λ more begun.
          let rest : List ℕ = begun.0 in
          let t : List ℕ = take (suc m) bytes ++ rest in
          let parts = and_parts (nat_le 1 (length t)) (nat_le (length t) 64 && list_all stands_in_key t) begun.1 in
          let these = and_parts (nat_le (length t) 64) (list_all stands_in_key t) parts.1 in
          let longer : length (take (suc m) bytes) ≡ suc m = length-take-le (suc m) bytes (omega arith) in
          let sum : length t ≡ length (take (suc m) bytes) + length rest = length-append (take (suc m) bytes) rest in
          let small : length t ≤ 64 = leb-true (length t) 64 these.0 in
          goes_no_further stands_in_key m bytes rest (omega arith) more these.1;
    }
