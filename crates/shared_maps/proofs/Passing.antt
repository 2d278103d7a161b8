-- Who goes from one place to the next passes each entry at most once.
use Rattle.std.proofs.Common.{◌≡◌, ◌≤◌, ◌<◌, ℕ, ◌+◌, Bool, true, false, not, nat_lt, cond, [], ◌∷◌, Option, Some, None, is_some, refl, ap, ◌∙◌, sym, Ordering, Less, Equal, Greater, arith}
use Rattle.std.proofs.lemmas.Bool.Decides.{nat_tests}
use Rattle.std.specs.Cmp.{nat_cmp_total}
use Rattle.std.specs.Cmp.Lexicographic.{options_total}
use Rattle.std.specs.Option.{option_cmp, option_or}
use Rattle.std.specs.Ordering.{is_lt, nat_cmp, ordering_then, ordering_reverse}
use Rattle.dura_value.specs.contracts.addresses.IdOrd.TheImpl.Laws.{total-law}
use Rattle.shared_maps.specs.Digests.{next_place}
use Rattle.shared_trees.specs.Entries.{Entries, find}
use Rattle.shared_trees.specs.Ids.{id_cmp}
use Rattle.shared_trees.specs.Places.{Place, is_before, is_same}
use Rattle.shared_trees.proofs.Orders.{before_trans, never, same_place}
use Rattle.shared_maps.proofs.Numbers.{lt_cmp}

-- ---- what is behind a place

one_more : (m n : ℕ) → nat_lt n (m + 1) ≡ not (nat_lt m n)
one_more m n = grind (arith, nat_tests)

by_numbers : (r : Ordering) (m n : ℕ) → is_lt (ordering_then (ordering_reverse r) (nat_cmp n (m + 1))) ≡ not (is_lt (ordering_then r (nat_cmp m n)))
by_numbers Less m n = refl
by_numbers Equal m n = lt_cmp n (m + 1) ∙ one_more m n ∙ ap not (sym (lt_cmp m n))
by_numbers Greater m n = refl

by_heads : (r s x : Ordering) → is_lt x ≡ not (is_lt s) → is_lt (ordering_then (ordering_reverse r) x) ≡ not (is_lt (ordering_then r s))
by_heads Less s x is = refl
by_heads Equal s x is = is
by_heads Greater s x is = refl

-- what doesn't come before the place behind another is behind that other
pub before_next : (at place : Place) → is_before at (next_place place) ≡ not (is_before place at)
before_next at place =
    let numbers = nat_cmp at.number (place.number + 1) in
    let behind = ordering_then (option_cmp id_cmp place.id at.id) (nat_cmp place.number at.number) in
    let before = ordering_then (option_cmp id_cmp at.id place.id) numbers in
    let ids = ap (λ r. is_lt (ordering_then r numbers)) ((options_total total-law).antisymm at.id place.id) ∙ by_numbers (option_cmp id_cmp place.id at.id) place.number at.number in
    ap (λ r. is_lt (ordering_then r before)) (nat_cmp_total.antisymm at.lead place.lead) ∙ by_heads (nat_cmp place.lead at.lead) behind before ids

-- ---- how many are left

-- whether a place is behind the last one, if there was one
abbrev pub is_past : Option Place → Place → Bool
is_past None place = true
is_past (Some last) place = is_before last place

abbrev pub one_if : Bool → ℕ
one_if true = 1
one_if false = 0

-- how many entries are at such places
abbrev pub count_at : {X : Type 0} → (Place → Bool) → Entries X → ℕ
count_at at [] = 0
count_at at (e ∷ es) = one_if (at e.0) + count_at at es

one_by : (a b : Bool) → (b ≡ true → a ≡ true) → one_if b ≤ one_if a
one_by a false so = omega arith
one_by true true so = omega arith
one_by false true so = absurd (let wrong = so refl in cc wrong)

module _ {X : Type 0} (old new : Place → Bool) (at : Place) (within : (place : Place) → new place ≡ true → old place ≡ true) (here : old at ≡ true) (gone : new at ≡ false) where
  no_more : (es : Entries X) → count_at new es ≤ count_at old es
  no_more [] = omega arith
  no_more (e ∷ es) = let rest = no_more es in let one = one_by (old e.0) (new e.0) (within e.0) in omega (arith, rest, one)

  pub fewer : (es : Entries X) → is_some (find es at) ≡ true → count_at new es < count_at old es
  fewer [] is = absurd (cc is)
  fewer (e ∷ es) is = by (is_same e.0 at) refl is (fewer es)
    where
      by : (b : Bool) → is_same e.0 at ≡ b → is_some (option_or (cond b e.1 None) (find es at)) ≡ true → (is_some (find es at) ≡ true → count_at new es < count_at old es) → count_at new (e ∷ es) < count_at old (e ∷ es)
      by true same found later =
          let place = same_place e.0 at same in
          let before : one_if (old e.0) ≡ one_if true = ap one_if (ap old place ∙ here) in
          let after : one_if (new e.0) ≡ one_if false = ap one_if (ap new place ∙ gone) in
          let rest = no_more es in
          omega (arith, before, after, rest)
      by false same found later = let rest = later found in let one = one_by (old e.0) (new e.0) (within e.0) in omega (arith, rest, one)

within_past : (last : Option Place) (at : Place) → is_past last at ≡ true → (place : Place) → is_past (Some at) place ≡ true → is_past last place ≡ true
within_past None at here place is = refl
within_past (Some l) at here place is = before_trans l at place here is

-- behind an entry there are fewer
pub passes : {X : Type 0} (entries : Entries X) (last : Option Place) (at : Place) → is_past last at ≡ true → is_some (find entries at) ≡ true → count_at (is_past (Some at)) entries < count_at (is_past last) entries
passes entries last at here found = fewer (is_past last) (is_past (Some at)) at (within_past last at here) here (never at) entries found
