-- How far bytes begin an id.
use Rattle.std.proofs.Common.{◌≡◌, ◌==◌, ◌&&◌, ◌+◌, ℕ, suc, List, [], ◌∷◌, ◌++◌, length, take, true, false, nat_le, refl, ap, sym, subst, arith, Result, Ok, Err, if◌then◌else◌}
use Rattle.std.proofs.lemmas.Bool.{eqb-true, and_parts}
use Rattle.std.specs.Char.{is_ascii_alphabetic}
use Rattle.dura_value.specs.Ids.{Id, orchestration, entity, client, written}
use Rattle.std.specs.List.{list_all}
use Rattle.dura_value.specs.Limits.{most_word_bytes}
use Rattle.dura_value.specs.Names.{is_name, is_key, goes_on_name}
use Rattle.dura_value.specs.Reading.{◌>>=◌, name_front, key_front, name_at, key_at, pair_at, id_in}
use Rattle.dura_value.proofs.Ids.{and_true}
use Rattle.id_laws.specs.Forms.{has_form}
use Rattle.id_laws.specs.Begins.{IsName, IsKey, IsWritten, StopsAt}
use Rattle.id_laws.proofs.WordFronts.{name_stops, key_stops}
use Rattle.id_laws.proofs.PairFronts.{IsPair, pair_stops}

-- ---- names and keys

pub name_fault : (bytes : List ℕ) (m : ℕ) → name_at 0 bytes ≡ Err m → StopsAt IsName bytes m
name_fault bytes m is =
    (elim (is_name bytes) as (λ b. (if b then Ok bytes else Err (0 + name_front bytes)) ≡ Err m → StopsAt IsName bytes m) [
      | true ↦ λ h. absurd (cc h)
      | false ↦ λ h.
          let fault : 0 + name_front bytes ≡ m = cc h in
          let same : name_front bytes ≡ m = omega arith in
          subst (λ (n : ℕ). StopsAt IsName bytes n) same (name_stops bytes)
    ]) is

pub key_fault : (bytes : List ℕ) (m : ℕ) → key_at 0 bytes ≡ Err m → StopsAt IsKey bytes m
key_fault bytes m is =
    (elim (is_key bytes) as (λ b. (if b then Ok bytes else Err (0 + key_front bytes)) ≡ Err m → StopsAt IsKey bytes m) [
      | true ↦ λ h. absurd (cc h)
      | false ↦ λ h.
          let fault : 0 + key_front bytes ≡ m = cc h in
          let same : key_front bytes ≡ m = omega arith in
          subst (λ (n : ℕ). StopsAt IsKey bytes n) same (key_stops bytes)
    ]) is

-- ---- ids by their first byte

heads : (a b : ℕ) (x y : List ℕ) → a ∷ x ≡ b ∷ y → a ≡ b
heads a b x y whole = cc whole

tails : (a b : ℕ) (x y : List ℕ) → a ∷ x ≡ b ∷ y → x ≡ y
tails a b x y whole = cc whole

no_name_of : (mark : ℕ) (name rest bytes : List ℕ) → is_ascii_alphabetic mark ≡ false → is_name name ≡ true → name ++ rest ≡ mark ∷ bytes → ⊥
no_name_of mark [] rest bytes mute is whole = cc is
no_name_of mark (a ∷ name) rest bytes mute is whole =
    let parts = and_parts (nat_le (length (a ∷ name)) most_word_bytes) (is_ascii_alphabetic a && list_all goes_on_name name) is in
    let these = and_parts (is_ascii_alphabetic a) (list_all goes_on_name name) parts.1 in
    let letter : is_ascii_alphabetic mark ≡ true = subst (λ (z : ℕ). is_ascii_alphabetic z ≡ true) (heads a mark (name ++ rest) bytes whole) these.0 in
    cc (letter, mute)

client_to : (xs : List ℕ) → IsName xs → IsWritten (35 ∷ xs)
client_to xs is = (client xs, is, refl)

client_of : (mark : ℕ) (id : Id) (xs : List ℕ) → mark ≡ 35 → has_form id ≡ true → written id ≡ mark ∷ xs → IsName xs
client_of mark (client name) xs at form whole = subst (λ (z : List ℕ). is_name z ≡ true) (tails 35 mark name xs whole) form
client_of mark (entity class key) xs at form whole = let same : 64 ≡ mark = heads 64 mark (class ++ 47 ∷ key) xs whole in absurd (omega arith)
client_of mark (orchestration flow key) xs at form whole =
    let mute : is_ascii_alphabetic mark ≡ false = subst (λ (z : ℕ). is_ascii_alphabetic z ≡ false) (sym at) refl in
    absurd (no_name_of mark flow (47 ∷ key) xs mute (and_parts (is_name flow) (is_key key) form).0 whole)

client_back : (xs : List ℕ) → IsWritten (35 ∷ xs) → IsName xs
client_back xs w = client_of 35 w.0 xs refl w.1 w.2

entity_to : (xs : List ℕ) → IsPair xs → IsWritten (64 ∷ xs)
entity_to xs p = (entity p.0 p.1, and_true (is_name p.0) (is_key p.1) p.2 p.3, ap (λ (z : List ℕ). 64 ∷ z) p.4)

entity_of : (mark : ℕ) (id : Id) (xs : List ℕ) → mark ≡ 64 → has_form id ≡ true → written id ≡ mark ∷ xs → IsPair xs
entity_of mark (client name) xs at form whole = let same : 35 ≡ mark = heads 35 mark name xs whole in absurd (omega arith)
entity_of mark (entity class key) xs at form whole =
    let parts = and_parts (is_name class) (is_key key) form in
    (class, key, parts.0, parts.1, tails 64 mark (class ++ 47 ∷ key) xs whole)
entity_of mark (orchestration flow key) xs at form whole =
    let mute : is_ascii_alphabetic mark ≡ false = subst (λ (z : ℕ). is_ascii_alphabetic z ≡ false) (sym at) refl in
    absurd (no_name_of mark flow (47 ∷ key) xs mute (and_parts (is_name flow) (is_key key) form).0 whole)

entity_back : (xs : List ℕ) → IsWritten (64 ∷ xs) → IsPair xs
entity_back xs w = entity_of 64 w.0 xs refl w.1 w.2

flow_to : (xs : List ℕ) → IsPair xs → IsWritten xs
flow_to xs p = (orchestration p.0 p.1, and_true (is_name p.0) (is_key p.1) p.2 p.3, p.4)

flow_of : (first : ℕ) (id : Id) (xs : List ℕ) → (first ≡ 35 → ⊥) → (first ≡ 64 → ⊥) → has_form id ≡ true → written id ≡ first ∷ xs → IsPair (first ∷ xs)
flow_of first (client name) xs other another form whole = absurd (other (sym (heads 35 first name xs whole)))
flow_of first (entity class key) xs other another form whole = absurd (another (sym (heads 64 first (class ++ 47 ∷ key) xs whole)))
flow_of first (orchestration flow key) xs other another form whole =
    let parts = and_parts (is_name flow) (is_key key) form in
    (flow, key, parts.0, parts.1, whole)

flow_stops : (first : ℕ) (xs : List ℕ) (n : ℕ) → (first ≡ 35 → ⊥) → (first ≡ 64 → ⊥) → StopsAt IsPair (first ∷ xs) n → StopsAt IsWritten (first ∷ xs) n
flow_stops first xs n other another s = record {
  front = (s.front.0, flow_to (take n (first ∷ xs) ++ s.front.0) s.front.1);
  longest = λ more begun. s.longest more (begun.0, flow_of first begun.1.0 (take n xs ++ begun.0) other another begun.1.1 begun.1.2);
}

-- a mark goes before
marked : (Is : List ℕ → Type 0) (mark n : ℕ) (xs : List ℕ) → ((zs : List ℕ) → Is zs → IsWritten (mark ∷ zs)) → ((zs : List ℕ) → IsWritten (mark ∷ zs) → Is zs)
    → StopsAt Is xs n → StopsAt IsWritten (mark ∷ xs) (suc n)
marked Is mark n xs to back s = record {
  front = (s.front.0, to (take n xs ++ s.front.0) s.front.1);
  longest = λ more begun. s.longest (omega arith) (begun.0, back (take (suc n) xs ++ begun.0) begun.1);
}

nothing_stops : StopsAt IsWritten [] 0
nothing_stops = record { front = (35 ∷ 97 ∷ [], client_to (97 ∷ []) refl); longest = λ more begun. absurd (omega arith) }

-- ---- the three kinds

fault_of : {A : Type 0} (r : Result A ℕ) (make : A → Id) (m : ℕ) → (r >>= λ x. Ok (make x)) ≡ Err m → r ≡ Err m
fault_of (Ok x) make m is = absurd (cc is)
fault_of {A = A} (Err k) make m is = let same : k ≡ m = cc is in let given : ℕ → Result A ℕ = λ j. Err j in ap given same

named_stops : (xs : List ℕ) (m : ℕ) → name_at 1 xs ≡ Err m → (n : ℕ) × (m ≡ suc n) × StopsAt IsName xs n
named_stops xs m is =
    (elim (is_name xs) as (λ b. (if b then Ok xs else Err (1 + name_front xs)) ≡ Err m → (n : ℕ) × (m ≡ suc n) × StopsAt IsName xs n) [
      | true ↦ λ h. absurd (cc h)
      | false ↦ λ h. let fault : 1 + name_front xs ≡ m = cc h in (name_front xs, omega arith, name_stops xs)
    ]) is

pub id_fault : (bytes : List ℕ) (m : ℕ) → id_in bytes ≡ Err m → StopsAt IsWritten bytes m
unfolding id_in
id_fault [] m is = let same : 0 ≡ m = cc is in subst (λ (n : ℕ). StopsAt IsWritten [] n) same nothing_stops
id_fault (first ∷ xs) m is =
    let a_client : Result Id ℕ = name_at 1 xs >>= λ name. Ok (client name) in
    let an_entity : Result Id ℕ = pair_at 1 xs >>= λ pair. Ok (entity pair.0 pair.1) in
    let an_instance : Result Id ℕ = pair_at 0 (first ∷ xs) >>= λ pair. Ok (orchestration pair.0 pair.1) in
    (elim (first == 35) as (λ b. (first == 35) ≡ b → (if b then a_client else (if first == 64 then an_entity else an_instance)) ≡ Err m → StopsAt IsWritten (first ∷ xs) m) [
      | true ↦ λ test h.
          let mark : first ≡ 35 = eqb-true first 35 test in
          let s = named_stops xs m (fault_of (name_at 1 xs) client m h) in
          let there : StopsAt IsWritten (35 ∷ xs) m = subst (λ (k : ℕ). StopsAt IsWritten (35 ∷ xs) k) (sym s.1) (marked IsName 35 s.0 xs client_to client_back s.2) in
          subst (λ (c : ℕ). StopsAt IsWritten (c ∷ xs) m) (sym mark) there
      | false ↦ λ test h.
          (elim (first == 64) as (λ b. (first == 64) ≡ b → (if b then an_entity else an_instance) ≡ Err m → StopsAt IsWritten (first ∷ xs) m) [
            | true ↦ λ other k.
                let mark : first ≡ 64 = eqb-true first 64 other in
                let s = pair_stops 1 xs m (fault_of (pair_at 1 xs) (λ pair. entity pair.0 pair.1) m k) in
                let fault : m ≡ suc s.0 = omega (arith, s.1) in
                let there : StopsAt IsWritten (64 ∷ xs) m = subst (λ (j : ℕ). StopsAt IsWritten (64 ∷ xs) j) (sym fault) (marked IsPair 64 s.0 xs entity_to entity_back s.2) in
                subst (λ (c : ℕ). StopsAt IsWritten (c ∷ xs) m) (sym mark) there
            | false ↦ λ other k.
                let s = pair_stops 0 (first ∷ xs) m (fault_of (pair_at 0 (first ∷ xs)) (λ pair. orchestration pair.0 pair.1) m k) in
                let fault : m ≡ s.0 = omega (arith, s.1) in
                let no_client : first ≡ 35 → ⊥ = λ same. let yes : (first == 35) ≡ true = subst (λ (c : ℕ). (c == 35) ≡ true) (sym same) refl in cc (yes, test) in
                let no_entity : first ≡ 64 → ⊥ = λ same. let yes : (first == 64) ≡ true = subst (λ (c : ℕ). (c == 64) ≡ true) (sym same) refl in cc (yes, other) in
                subst (λ (j : ℕ). StopsAt IsWritten (first ∷ xs) j) (sym fault) (flow_stops first xs s.0 no_client no_entity s.2)
          ]) refl h
    ]) refl is
