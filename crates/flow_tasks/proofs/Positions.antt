-- The place of what passes a test, seen from the rest of a list.
use Rattle.std.proofs.Common.{◌≡◌, ◌∙◌, ◌==◌, ℕ, zero, suc, ◌+◌, List, [], ◌∷◌, length, not, Bool, true, false, nat_lt, if◌then◌else◌, cond, Option, Some, None, position, refl, ap, sym, arith}
use Rattle.std.proofs.lemmas.Bool.Decides.{nat_tests}
use Rattle.std.specs.List.{position_or_len, remove}
use Rattle.flow_syntax.specs.Machine.{later_by_one}
use Rattle.flow_tasks.specs.Numbers.{without}

less_by_one : (p n : ℕ) → nat_lt (1 + p) (suc n) ≡ nat_lt p n
less_by_one p n = grind (arith, nat_tests)

one_more : (p : ℕ) → 1 + p ≡ suc p
one_more p = omega arith

later_place : (p n : ℕ) → cond (nat_lt (1 + p) (suc n)) (Some (1 + p)) None ≡ later_by_one (cond (nat_lt p n) (Some p) None)
later_place p n =
    ap (λ (b : Bool). cond b (Some (1 + p)) None) (less_by_one p n)
    ∙ ap (λ (q : ℕ). cond (nat_lt p n) (Some q) None) (one_more p)
    ∙ elim (nat_lt p n) as (λ b. cond b (Some (suc p)) None ≡ later_by_one (cond b (Some p) None)) [ true ↦ refl | false ↦ refl ]

none_before : (n : ℕ) → nat_lt 0 (suc n) ≡ true
none_before n = grind (arith, nat_tests)

pub first_place : {X : Type 0} (test : X → Bool) (one : X) (more : List X) → position test (one ∷ more) ≡ (if test one then Some 0 else later_by_one (position test more))
first_place test one more =
    elim (test one) as (λ b. cond (nat_lt (cond (not b) (1 + position_or_len test more) 0) (suc (length more))) (Some (cond (not b) (1 + position_or_len test more) 0)) None ≡ (if b then Some 0 else later_by_one (position test more))) [
      | true ↦ ap (λ (b : Bool). cond b (Some 0) None) (none_before (length more))
      | false ↦ later_place (position_or_len test more) (length more)
    ]

-- ---- a number taken out by its place

taken_later : (n m : ℕ) (numbers : List ℕ) (place : ℕ) (b : Bool) (o : Option ℕ) → ((p : ℕ) → o ≡ Some p → remove numbers p ≡ without n numbers) → (if b then Some 0 else later_by_one o) ≡ Some place
    → remove (m ∷ numbers) place ≡ (if b then numbers else m ∷ without n numbers)
taken_later n m numbers zero true o before is = refl
taken_later n m numbers (suc place) true o before is = absurd (cc is)
taken_later n m numbers place false None before is = absurd (cc is)
taken_later n m numbers zero false (Some p) before is = absurd (cc is)
taken_later n m numbers (suc place) false (Some p) before is = ap (λ l. m ∷ l) (before place (cc is))

none_later : (n m : ℕ) (numbers : List ℕ) (b : Bool) (o : Option ℕ) → (o ≡ None → numbers ≡ without n numbers) → (if b then Some 0 else later_by_one o) ≡ None
    → m ∷ numbers ≡ (if b then numbers else m ∷ without n numbers)
none_later n m numbers true o before is = absurd (cc is)
none_later n m numbers false (Some p) before is = absurd (cc is)
none_later n m numbers false None before is = ap (λ l. m ∷ l) (before refl)

pub taken_out : (n : ℕ) (numbers : List ℕ) (place : ℕ) → position (λ m. n == m) numbers ≡ Some place → remove numbers place ≡ without n numbers
taken_out n [] place is = absurd (cc is)
taken_out n (m ∷ numbers) place is =
    taken_later n m numbers place (n == m) (position (λ o. n == o) numbers) (λ p e. taken_out n numbers p e) (sym (first_place (λ o. n == o) m numbers) ∙ is)

pub not_taken_out : (n : ℕ) (numbers : List ℕ) → position (λ m. n == m) numbers ≡ None → numbers ≡ without n numbers
not_taken_out n [] is = refl
not_taken_out n (m ∷ numbers) is = none_later n m numbers (n == m) (position (λ o. n == o) numbers) (λ e. not_taken_out n numbers e) (sym (first_place (λ o. n == o) m numbers) ∙ is)
