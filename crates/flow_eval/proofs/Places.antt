-- Variables by their places.
use Rattle.std.proofs.Common.{◌≡◌, ◌<◌, ◌+◌, ℕ, suc, List, [], ◌∷◌, ◌++◌, length, get_or, Bool, true, false, not, cond, nat_lt, if◌then◌else◌, Some, None, Ok, Err, codes, position, refl, ap, arith}
use Rattle.std.proofs.Math.ListN.{set}
use Rattle.std.proofs.lemmas.Bool.{ltb-true, lt-ltb}
use Rattle.std.specs.List.{position_or_len}
use Rattle.std.specs.Str.{bytes_eq}
use Rattle.dura_value.specs.declared.data.Value.{Value}
use Rattle.flow_syntax.specs.Eval.{Variables, value_in, set_in}

abbrev is_named : List ℕ → (List ℕ × Value) → Bool
is_named name one = bytes_eq one.0 name

-- the place of a variable, or the length
place : List ℕ → Variables → ℕ
place name [] = 0
place name (one ∷ more) = if is_named name one then 0 else suc (place name more)

place_is : (name : List ℕ) (vars : Variables) → place name vars ≡ position_or_len (is_named name) vars
unfolding place
place_is name [] = refl
place_is name (one ∷ more) =
    elim (is_named name one) as (λ b. (if b then 0 else suc (place name more)) ≡ cond (not b) (1 + position_or_len (is_named name) more) 0) [
      | true ↦ refl
      | false ↦ let same : place name more ≡ position_or_len (is_named name) more = place_is name more in omega arith
    ]

value_at_place : (name : List ℕ) (vars : Variables) (d : List ℕ × Value) → place name vars < length vars → value_in vars name ≡ Ok (get_or vars (place name vars) d).1
unfolding place
value_at_place name [] d here = absurd (omega arith)
value_at_place name (one ∷ more) d here =
    (elim (is_named name one) as (λ b. (if b then 0 else suc (place name more)) < suc (length more) → (if b then Ok one.1 else value_in more name) ≡ Ok (get_or (one ∷ more) (if b then 0 else suc (place name more)) d).1) [
      | true ↦ λ h. refl
      | false ↦ λ h. value_at_place name more d (omega arith)
    ]) here

no_value : (name : List ℕ) (vars : Variables) → (place name vars < length vars → ⊥) → value_in vars name ≡ Err (codes "unset")
unfolding place
no_value name [] none = refl
no_value name (one ∷ more) none =
    (elim (is_named name one) as (λ b. ((if b then 0 else suc (place name more)) < suc (length more) → ⊥) → (if b then Ok one.1 else value_in more name) ≡ Err (codes "unset")) [
      | true ↦ λ h. absurd (h (omega arith))
      | false ↦ λ h. no_value name more (λ k. h (omega arith))
    ]) none

set_at_place : (name : List ℕ) (value : Value) (vars : Variables) → place name vars < length vars → set_in vars name value ≡ set vars (place name vars) (name, value)
unfolding place
set_at_place name value [] here = absurd (omega arith)
set_at_place name value (one ∷ more) here =
    (elim (is_named name one) as (λ b. (if b then 0 else suc (place name more)) < suc (length more) → (if b then (name, value) ∷ more else one ∷ set_in more name value) ≡ set (one ∷ more) (if b then 0 else suc (place name more)) (name, value)) [
      | true ↦ λ h. refl
      | false ↦ λ h. ap (λ (l : Variables). one ∷ l) (set_at_place name value more (omega arith))
    ]) here

set_behind_all : (name : List ℕ) (value : Value) (vars : Variables) → (place name vars < length vars → ⊥) → set_in vars name value ≡ vars ++ (name, value) ∷ []
unfolding place
set_behind_all name value [] none = refl
set_behind_all name value (one ∷ more) none =
    (elim (is_named name one) as (λ b. ((if b then 0 else suc (place name more)) < suc (length more) → ⊥) → (if b then (name, value) ∷ more else one ∷ set_in more name value) ≡ one ∷ (more ++ (name, value) ∷ [])) [
      | true ↦ λ h. absurd (h (omega arith))
      | false ↦ λ h. ap (λ (l : Variables). one ∷ l) (set_behind_all name value more (λ k. h (omega arith)))
    ]) none

split : (i n m : ℕ) → Some i ≡ (if nat_lt n m then Some n else None) → (i ≡ n) × (n < m)
split i n m is =
    (elim (nat_lt n m) as (λ b. nat_lt n m ≡ b → Some i ≡ (if b then Some n else None) → (i ≡ n) × (n < m)) [
      | true ↦ λ less same. (cc same, ltb-true n m less)
      | false ↦ λ less same. absurd (cc same)
    ]) refl is

split_none : (n m : ℕ) → None ≡ (if nat_lt n m then Some n else None) → n < m → ⊥
split_none n m is here =
    (elim (nat_lt n m) as (λ b. nat_lt n m ≡ b → None ≡ (if b then Some n else None) → ⊥) [
      | true ↦ λ less same. cc same
      | false ↦ λ less same. let more : nat_lt n m ≡ true = lt-ltb n m here in cc (less, more)
    ]) refl is

here_at : (name : List ℕ) (vars : Variables) (i : ℕ) → Some i ≡ position (is_named name) vars → (i ≡ place name vars) × (place name vars < length vars)
here_at name vars i is =
    let parts : (i ≡ position_or_len (is_named name) vars) × (position_or_len (is_named name) vars < length vars) = split i (position_or_len (is_named name) vars) (length vars) is in
    let same : place name vars ≡ position_or_len (is_named name) vars = place_is name vars in
    let first : i ≡ position_or_len (is_named name) vars = parts.0 in
    let second : position_or_len (is_named name) vars < length vars = parts.1 in
    (omega arith, omega arith)

not_here : (name : List ℕ) (vars : Variables) → None ≡ position (is_named name) vars → place name vars < length vars → ⊥
not_here name vars is here =
    let same : place name vars ≡ position_or_len (is_named name) vars = place_is name vars in
    split_none (position_or_len (is_named name) vars) (length vars) is (omega arith)

-- ---- as the contracts say it

pub found : (name : List ℕ) (vars : Variables) (i : ℕ) (d : List ℕ × Value) → Some i ≡ position (is_named name) vars → value_in vars name ≡ Ok (get_or vars i d).1
found name vars i d is = let at = here_at name vars i is in rw at.0 (value_at_place name vars d at.1)

pub not_found : (name : List ℕ) (vars : Variables) → None ≡ position (is_named name) vars → value_in vars name ≡ Err (codes "unset")
not_found name vars is = no_value name vars (not_here name vars is)

pub set_there : (name : List ℕ) (value : Value) (vars : Variables) (i : ℕ) → Some i ≡ position (is_named name) vars → set_in vars name value ≡ set vars i (name, value)
set_there name value vars i is = let at = here_at name vars i is in rw at.0 (set_at_place name value vars at.1)

pub set_behind : (name : List ℕ) (value : Value) (vars : Variables) → None ≡ position (is_named name) vars → set_in vars name value ≡ vars ++ (name, value) ∷ []
set_behind name value vars is = set_behind_all name value vars (not_here name vars is)
