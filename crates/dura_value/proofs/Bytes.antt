-- The order of byte strings.
use Rattle.std.proofs.Common.{◌≡◌, ◌==◌, ◌&&◌, ◌||◌, ℕ, nat_lt, List, [], ◌∷◌, true, false, if◌then◌else◌, refl, sym}
use Rattle.std.specs.declared.cmp.Ordering.TheVariants.{Less, Equal, Greater}
use Rattle.std.specs.Ordering.{nat_cmp, is_lt, ordering_then}
use Rattle.std.specs.Cmp.Lexicographic.{slice_cmp}
use Rattle.dura_value.specs.Bytes.{bytes_before}

-- the order of byte strings is that of slices of their bytes
pub is_lt-slice_cmp : (xs ys : List ℕ) → bytes_before xs ys ≡ is_lt (slice_cmp nat_cmp xs ys)
is_lt-slice_cmp [] [] = refl
is_lt-slice_cmp (x ∷ xs) [] = refl
is_lt-slice_cmp [] (y ∷ ys) = refl
is_lt-slice_cmp (x ∷ xs) (y ∷ ys) =
    elim (nat_lt x y) as (λ less. (less || (x == y && bytes_before xs ys)) ≡ is_lt (ordering_then (if less then Less else (if x == y then Equal else Greater)) (slice_cmp nat_cmp xs ys))) [
      | true ↦ refl
      | false ↦ elim (x == y) as (λ same. (same && bytes_before xs ys) ≡ is_lt (ordering_then (if same then Equal else Greater) (slice_cmp nat_cmp xs ys))) [
        | true ↦ is_lt-slice_cmp xs ys
        | false ↦ refl
      ]
    ]

pub less_bytes : (xs ys : List ℕ) → is_lt (slice_cmp nat_cmp xs ys) ≡ bytes_before xs ys
less_bytes xs ys = sym (is_lt-slice_cmp xs ys)
