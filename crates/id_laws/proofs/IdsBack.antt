-- What is written is read again, and nothing else is read.
use Rattle.std.proofs.Common.{◌≡◌, ◌==◌, ◌&&◌, ◌∙◌, ◌<◌, ◌+◌, ℕ, zero, suc, List, [], ◌∷◌, ◌++◌, length, take, drop, true, false, nat_lt, nat_le, refl, ap, sym, subst, arith, length-append, Result, Ok, Err, if◌then◌else◌}
use Rattle.std.proofs.lemmas.Bool.{eqb-true, ltb-true, lt-ltb, and_parts}
use Rattle.std.proofs.lemmas.Bool.Decides.{nat_tests}
use Rattle.std.specs.Char.{is_ascii_alphabetic}
use Rattle.std.specs.List.{list_all, prefix_len}
use Rattle.dura_value.specs.Ids.{Id, orchestration, entity, client, written}
use Rattle.dura_value.specs.Limits.{most_word_bytes}
use Rattle.dura_value.specs.Names.{is_name, is_key, goes_on_name}
use Rattle.dura_value.specs.Reading.{◌>>=◌, name_front, key_front, name_at, key_at, pair_at, id_in}
use Rattle.dura_value.proofs.Ids.{and_true}
use Rattle.id_laws.specs.Forms.{has_form}
use Rattle.id_laws.proofs.Order.{above_marks}
use Rattle.id_laws.proofs.PairFronts.{no_slash, name_has_none, parts_of}

place_behind : (x k : List ℕ) → list_all no_slash x ≡ true → prefix_len no_slash (x ++ 47 ∷ k) ≡ length x
place_behind [] k none = refl
place_behind (a ∷ x) k none =
    let parts = and_parts (no_slash a) (list_all no_slash x) none in
    let rest : prefix_len no_slash (x ++ 47 ∷ k) ≡ length x = place_behind x k parts.1 in
    rw parts.0 (omega arith)

take_front : (x k : List ℕ) → take (length x) (x ++ k) ≡ x
take_front [] k = refl
take_front (a ∷ x) k = ap (λ (z : List ℕ). a ∷ z) (take_front x k)

drop_front : (x k : List ℕ) (c n : ℕ) → n ≡ suc (length x) → drop n (x ++ c ∷ k) ≡ k
drop_front [] k c zero is = absurd (omega arith)
drop_front [] k c (suc n) is = let none : n ≡ 0 = omega arith in ap (λ (j : ℕ). drop j k) none
drop_front (a ∷ x) k c zero is = absurd (omega arith)
drop_front (a ∷ x) k c (suc n) is = drop_front x k c n (omega arith)

pair_back : (at : ℕ) (x k : List ℕ) → is_name x ≡ true → is_key k ≡ true → pair_at at (x ++ 47 ∷ k) ≡ Ok (x, k)
unfolding pair_at
pair_back at x k name key =
    let here : prefix_len no_slash (x ++ 47 ∷ k) ≡ length x = place_behind x k (name_has_none x name) in
    let long : length (x ++ 47 ∷ k) ≡ length x + length (47 ∷ k) = length-append x (47 ∷ k) in
    let there : nat_lt (length x) (length (x ++ 47 ∷ k)) ≡ true = lt-ltb (length x) (length (x ++ 47 ∷ k)) (omega arith) in
    let behind : drop (length x + 1) (x ++ 47 ∷ k) ≡ k = drop_front x k 47 (length x + 1) (omega arith) in
    rw (here, take_front x (47 ∷ k), name, there, behind, key)

pub written_is_read : (id : Id) → has_form id ≡ true → id_in (written id) ≡ Ok id
unfolding id_in
written_is_read (client name) form = rw form
written_is_read (entity class key) form =
    let parts = and_parts (is_name class) (is_key key) form in
    rw (pair_back 1 class key parts.0 parts.1)
written_is_read (orchestration [] key) form = absurd (cc form)
written_is_read (orchestration (a ∷ flow) key) form =
    let parts = and_parts (is_name (a ∷ flow)) (is_key key) form in
    let these = and_parts (nat_le (length (a ∷ flow)) most_word_bytes) (is_ascii_alphabetic a && list_all goes_on_name flow) parts.0 in
    let those = and_parts (is_ascii_alphabetic a) (list_all goes_on_name flow) these.1 in
    let above : 64 < a = above_marks a those.0 in
    let no_client : (a == 35) ≡ false = grind (arith, nat_tests) in
    let no_entity : (a == 64) ≡ false = grind (arith, nat_tests) in
    rw (no_client, no_entity, pair_back 0 (a ∷ flow) key parts.0 parts.1)

-- ---- and back

value_from : {A : Type 0} (r : Result A ℕ) (make : A → Id) (id : Id) → (r >>= λ x. Ok (make x)) ≡ Ok id → (x : A) × (r ≡ Ok x) × (make x ≡ id)
value_from (Ok x) make id is = (x, refl, cc is)
value_from (Err k) make id is = absurd (cc is)

named : (at : ℕ) (xs name : List ℕ) → name_at at xs ≡ Ok name → (is_name name ≡ true) × (name ≡ xs)
named at xs name is =
    (elim (is_name xs) as (λ b. is_name xs ≡ b → (if b then Ok xs else Err (at + name_front xs)) ≡ Ok name → (is_name name ≡ true) × (name ≡ xs)) [
      | true ↦ λ test h. let same : xs ≡ name = cc h in (subst (λ (z : List ℕ). is_name z ≡ true) same test, sym same)
      | false ↦ λ test h. absurd (cc h)
    ]) refl is

paired : (at : ℕ) (bytes : List ℕ) (p : List ℕ × List ℕ) → pair_at at bytes ≡ Ok p → (is_name p.0 ≡ true) × (is_key p.1 ≡ true) × (p.0 ++ 47 ∷ p.1 ≡ bytes)
unfolding pair_at
paired at bytes p is =
    let place : ℕ = prefix_len no_slash bytes in
    let t : List ℕ = take place bytes in
    let d : List ℕ = drop (place + 1) bytes in
    let Read : Type 0 = (is_name p.0 ≡ true) × (is_key p.1 ≡ true) × (p.0 ++ 47 ∷ p.1 ≡ bytes) in
    let pair : List ℕ → List ℕ → Result (List ℕ × List ℕ) ℕ = λ name key. Ok (name, key) in
    let keyed : List ℕ → Result (List ℕ × List ℕ) ℕ = λ name. key_at (at + place + 1) d >>= pair name in
    let after : List ℕ → Result (List ℕ × List ℕ) ℕ = λ name. if nat_lt place (length bytes) then keyed name else Err (at + place) in
    (elim (is_name t) as (λ b. is_name t ≡ b → ((if b then Ok t else Err (at + name_front t)) >>= after) ≡ Ok p → Read) [
      | true ↦ λ good h.
          (elim (nat_lt place (length bytes)) as (λ b. nat_lt place (length bytes) ≡ b → (if b then keyed t else Err (at + place)) ≡ Ok p → Read) [
            | true ↦ λ test k.
                (elim (is_key d) as (λ b. is_key d ≡ b → ((if b then Ok d else Err (at + place + 1 + key_front d)) >>= pair t) ≡ Ok p → Read) [
                  | true ↦ λ key q.
                      let same : (t, d) ≡ p = cc q in
                      let one : place + 1 ≡ suc place = omega arith in
                      let rest : d ≡ drop (suc place) bytes = ap (λ (j : ℕ). drop j bytes) one in
                      let whole : t ++ 47 ∷ d ≡ bytes = ap (λ (z : List ℕ). t ++ 47 ∷ z) rest ∙ sym (parts_of place bytes refl (ltb-true place (length bytes) test)) in
                      subst (λ (z : List ℕ × List ℕ). (is_name z.0 ≡ true) × (is_key z.1 ≡ true) × (z.0 ++ 47 ∷ z.1 ≡ bytes)) same (good, key, whole)
                  | false ↦ λ key q. absurd (cc q)
                ]) refl k
            | false ↦ λ test k. absurd (cc k)
          ]) refl h
      | false ↦ λ bad h. absurd (cc h)
    ]) refl is

pub read_is_written : (bytes : List ℕ) (id : Id) → id_in bytes ≡ Ok id → (has_form id ≡ true) × (written id ≡ bytes)
unfolding id_in
read_is_written [] id is = absurd (cc is)
read_is_written (first ∷ xs) id is =
    let a_client : Result Id ℕ = name_at 1 xs >>= λ name. Ok (client name) in
    let an_entity : Result Id ℕ = pair_at 1 xs >>= λ pair. Ok (entity pair.0 pair.1) in
    let an_instance : Result Id ℕ = pair_at 0 (first ∷ xs) >>= λ pair. Ok (orchestration pair.0 pair.1) in
    let Read : Id → Type 0 = λ z. (has_form z ≡ true) × (written z ≡ first ∷ xs) in
    (elim (first == 35) as (λ b. (first == 35) ≡ b → (if b then a_client else (if first == 64 then an_entity else an_instance)) ≡ Ok id → Read id) [
      | true ↦ λ test h.
          let v = value_from (name_at 1 xs) client id h in
          let r = named 1 xs v.0 v.1 in
          subst Read v.2 (r.0, ap (λ (c : ℕ). c ∷ v.0) (sym (eqb-true first 35 test)) ∙ ap (λ (z : List ℕ). first ∷ z) r.1)
      | false ↦ λ test h.
          (elim (first == 64) as (λ b. (first == 64) ≡ b → (if b then an_entity else an_instance) ≡ Ok id → Read id) [
            | true ↦ λ other k.
                let v = value_from (pair_at 1 xs) (λ pair. entity pair.0 pair.1) id k in
                let r = paired 1 xs v.0 v.1 in
                subst Read v.2 (and_true (is_name v.0.0) (is_key v.0.1) r.0 r.1, ap (λ (c : ℕ). c ∷ (v.0.0 ++ 47 ∷ v.0.1)) (sym (eqb-true first 64 other)) ∙ ap (λ (z : List ℕ). first ∷ z) r.2)
            | false ↦ λ other k.
                let v = value_from (pair_at 0 (first ∷ xs)) (λ pair. orchestration pair.0 pair.1) id k in
                let r = paired 0 (first ∷ xs) v.0 v.1 in
                subst Read v.2 (and_true (is_name v.0.0) (is_key v.0.1) r.0 r.1, r.2)
          ]) refl h
    ]) refl is
