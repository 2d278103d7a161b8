-- The order of entities.
use Rattle.std.proofs.Common.{◌≡◌, ◌==◌, ◌&&◌, ◌||◌, ◌⊎◌, inl, inr, ℕ, ◌<◌, Bool, true, List, [], ◌∷◌, refl, sym, subst, ◌∙◌, arith}
use Rattle.std.specs.Prelude.{nat_lt}
use Rattle.std.specs.Str.{bytes_eq}
use Rattle.std.proofs.lemmas.Bool.{ltb-true, lt-ltb, eqb-true, eq-eqb, cases_order, or_cases, and_parts, and_from, or_left, or_right}
use Rattle.dura_value.specs.Bytes.{bytes_before}
use Rattle.dura_value.specs.Messages.{Spot, spot_before, spot_eq}
use Rattle.dura_value.proofs.Ids.{same_bytes, bytes_self}

head_cases : (x y : ℕ) (rest : Bool) → nat_lt x y || (x == y && rest) ≡ true → (x < y) ⊎ ((x ≡ y) × (rest ≡ true))
head_cases x y rest is = elim (or_cases (nat_lt x y) (x == y && rest) is) [
  | inl less ↦ inl (ltb-true x y less)
  | inr both ↦ let parts = and_parts (x == y) rest both in inr (eqb-true x y parts.0, parts.1)
]

head_before : (x y : ℕ) (rest : Bool) → x < y → nat_lt x y || (x == y && rest) ≡ true
head_before x y rest less = or_left (nat_lt x y) (x == y && rest) (lt-ltb x y less)

tail_before : (x y : ℕ) (rest : Bool) → x ≡ y → rest ≡ true → nat_lt x y || (x == y && rest) ≡ true
tail_before x y rest same is = or_right (nat_lt x y) (x == y && rest) (and_from (x == y) rest (eq-eqb x y same) is)

pub bytes_trans : (a b c : List ℕ) → bytes_before a b ≡ true → bytes_before b c ≡ true → bytes_before a c ≡ true
bytes_trans xs ys [] first second = absurd (cc second)
bytes_trans [] ys (z ∷ zs) first second = refl
bytes_trans (x ∷ xs) [] (z ∷ zs) first second = absurd (cc first)
bytes_trans (x ∷ xs) (y ∷ ys) (z ∷ zs) first second = by (head_cases x y (bytes_before xs ys) first) (head_cases y z (bytes_before ys zs) second) (bytes_trans xs ys zs)
  where
    by : (x < y) ⊎ ((x ≡ y) × (bytes_before xs ys ≡ true)) → (y < z) ⊎ ((y ≡ z) × (bytes_before ys zs ≡ true)) → (bytes_before xs ys ≡ true → bytes_before ys zs ≡ true → bytes_before xs zs ≡ true)
        → nat_lt x z || (x == z && bytes_before xs zs) ≡ true
    by (inl a) (inl b) trans = head_before x z (bytes_before xs zs) (omega (arith, a, b))
    by (inl a) (inr b) trans = head_before x z (bytes_before xs zs) (omega (arith, a, b.0))
    by (inr a) (inl b) trans = head_before x z (bytes_before xs zs) (omega (arith, a.0, b))
    by (inr a) (inr b) trans = tail_before x z (bytes_before xs zs) (a.0 ∙ b.0) (trans a.1 b.1)

pub bytes_total : (a b : List ℕ) → (bytes_before a b ≡ true) ⊎ ((a ≡ b) ⊎ (bytes_before b a ≡ true))
bytes_total [] [] = inr (inl refl)
bytes_total [] (y ∷ ys) = inl refl
bytes_total (x ∷ xs) [] = inr (inr refl)
bytes_total (x ∷ xs) (y ∷ ys) = by (cases_order x y) (bytes_total xs ys)
  where
    by : (x ≡ y) ⊎ ((x < y) ⊎ (y < x)) → (bytes_before xs ys ≡ true) ⊎ ((xs ≡ ys) ⊎ (bytes_before ys xs ≡ true))
        → (nat_lt x y || (x == y && bytes_before xs ys) ≡ true) ⊎ ((x ∷ xs ≡ y ∷ ys) ⊎ (nat_lt y x || (y == x && bytes_before ys xs) ≡ true))
    by (inl same) (inl less) = inl (tail_before x y (bytes_before xs ys) same less)
    by (inl same) (inr (inl rest)) = inr (inl (cc (same, rest)))
    by (inl same) (inr (inr more)) = inr (inr (tail_before y x (bytes_before ys xs) (sym same) more))
    by (inr (inl less)) rest = inl (head_before x y (bytes_before xs ys) less)
    by (inr (inr more)) rest = inr (inr (head_before y x (bytes_before ys xs) more))

pub bytes_not_self : (a : List ℕ) → bytes_before a a ≡ true → ⊥
bytes_not_self [] is = cc is
bytes_not_self (x ∷ xs) is = elim (head_cases x x (bytes_before xs xs) is) [ inl less ↦ omega (arith, less) | inr both ↦ bytes_not_self xs both.1 ]

-- ---- entities

spot_cases : (a b : Spot) → spot_before a b ≡ true → (bytes_before a.class b.class ≡ true) ⊎ ((a.class ≡ b.class) × (bytes_before a.key b.key ≡ true))
spot_cases a b is = elim (or_cases (bytes_before a.class b.class) (bytes_eq a.class b.class && bytes_before a.key b.key) is) [
  | inl less ↦ inl less
  | inr both ↦ let parts = and_parts (bytes_eq a.class b.class) (bytes_before a.key b.key) both in inr (same_bytes a.class b.class parts.0, parts.1)
]

class_before : (a b : Spot) → bytes_before a.class b.class ≡ true → spot_before a b ≡ true
class_before a b is = or_left (bytes_before a.class b.class) (bytes_eq a.class b.class && bytes_before a.key b.key) is

class_same : (a b : List ℕ) → a ≡ b → bytes_eq a b ≡ true
class_same a b same = subst (λ (c : List ℕ). bytes_eq a c ≡ true) same (bytes_self a)

key_before : (a b : Spot) → a.class ≡ b.class → bytes_before a.key b.key ≡ true → spot_before a b ≡ true
key_before a b same is = or_right (bytes_before a.class b.class) (bytes_eq a.class b.class && bytes_before a.key b.key) (and_from (bytes_eq a.class b.class) (bytes_before a.key b.key) (class_same a.class b.class same) is)

pub spot_trans : (a b c : Spot) → spot_before a b ≡ true → spot_before b c ≡ true → spot_before a c ≡ true
spot_trans a b c first second = by (spot_cases a b first) (spot_cases b c second)
  where
    by : (bytes_before a.class b.class ≡ true) ⊎ ((a.class ≡ b.class) × (bytes_before a.key b.key ≡ true)) → (bytes_before b.class c.class ≡ true) ⊎ ((b.class ≡ c.class) × (bytes_before b.key c.key ≡ true)) → spot_before a c ≡ true
    by (inl x) (inl y) = class_before a c (bytes_trans a.class b.class c.class x y)
    by (inl x) (inr y) = class_before a c (subst (λ (class : List ℕ). bytes_before a.class class ≡ true) y.0 x)
    by (inr x) (inl y) = class_before a c (subst (λ (class : List ℕ). bytes_before class c.class ≡ true) (sym x.0) y)
    by (inr x) (inr y) = key_before a c (x.0 ∙ y.0) (bytes_trans a.key b.key c.key x.1 y.1)

pub spot_total : (a b : Spot) → (spot_before a b ≡ true) ⊎ ((spot_eq a b ≡ true) ⊎ (spot_before b a ≡ true))
spot_total a b = by (bytes_total a.class b.class) (bytes_total a.key b.key)
  where
    by : (bytes_before a.class b.class ≡ true) ⊎ ((a.class ≡ b.class) ⊎ (bytes_before b.class a.class ≡ true)) → (bytes_before a.key b.key ≡ true) ⊎ ((a.key ≡ b.key) ⊎ (bytes_before b.key a.key ≡ true))
        → (spot_before a b ≡ true) ⊎ ((spot_eq a b ≡ true) ⊎ (spot_before b a ≡ true))
    by (inl less) keys = inl (class_before a b less)
    by (inr (inr more)) keys = inr (inr (class_before b a more))
    by (inr (inl same)) (inl less) = inl (key_before a b same less)
    by (inr (inl same)) (inr (inl key)) = inr (inl (and_from (bytes_eq a.class b.class) (bytes_eq a.key b.key) (class_same a.class b.class same) (class_same a.key b.key key)))
    by (inr (inl same)) (inr (inr more)) = inr (inr (key_before b a (sym same) more))

pub spot_not_self : (a : Spot) → spot_before a a ≡ true → ⊥
spot_not_self a is = elim (spot_cases a a is) [ inl less ↦ bytes_not_self a.class less | inr both ↦ bytes_not_self a.key both.1 ]
