-- The order of places.
use Rattle.std.proofs.Common.{true, false, ◌≡◌, ◌⊎◌, inl, inr, ◌∙◌, ℕ, Option, Some, None, refl, ap, sym, eqb-true, Ordering, Less, Equal, Greater}
use Rattle.std.specs.Cmp.{IsTotalOrder, nat_cmp_total, on_total, then_total, tied_itself, unsigned_tied}
use Rattle.std.specs.Cmp.Lexicographic.{options_total}
use Rattle.std.specs.Ordering.{is_eq, is_gt, is_lt, nat_cmp, ordering_then, ordering_reverse}
use Rattle.std.specs.Option.{option_cmp}
use Rattle.dura_value.specs.declared.addresses.Id.{Id}
use Rattle.dura_value.specs.contracts.addresses.IdOrd.TheImpl.Laws.{total-law}
use Rattle.shared_trees.specs.Ids.{id_cmp}
use Rattle.shared_trees.specs.Places.{Place, place_cmp, is_before, is_same}
use Rattle.shared_trees.proofs.Ids.{same_id}

pub places_total : IsTotalOrder place_cmp
places_total = then_total (on_total (λ (p : Place). p.lead) nat_cmp_total) (then_total (on_total (λ (p : Place). p.id) (options_total total-law)) (on_total (λ (p : Place). p.number) nat_cmp_total))

pub both_equal : (r s : Ordering) → is_eq (ordering_then r s) ≡ true → (is_eq r ≡ true) × (is_eq s ≡ true)
both_equal Less s is = absurd (cc is)
both_equal Equal s is = (refl, is)
both_equal Greater s is = absurd (cc is)

pub same_number : (a b : ℕ) → is_eq (nat_cmp a b) ≡ true → a ≡ b
same_number a b is = eqb-true a b (sym (unsigned_tied a b) ∙ is)

pub same_optional : (a b : Option Id) → is_eq (option_cmp id_cmp a b) ≡ true → a ≡ b
same_optional None None is = refl
same_optional None (Some b) is = absurd (cc is)
same_optional (Some a) None is = absurd (cc is)
same_optional (Some a) (Some b) is = ap Some (same_id a b is)

-- places that compare alike are one
pub same_place : (a b : Place) → is_same a b ≡ true → a ≡ b
same_place a b is =
    let leads = both_equal (nat_cmp a.lead b.lead) (ordering_then (option_cmp id_cmp a.id b.id) (nat_cmp a.number b.number)) is in
    let others = both_equal (option_cmp id_cmp a.id b.id) (nat_cmp a.number b.number) leads.1 in
    let lead = same_number a.lead b.lead leads.0 in
    let id = same_optional a.id b.id others.0 in
    let number = same_number a.number b.number others.1 in
    λ i. record { lead = lead i; id = id i; number = number i }

pub same_itself : (a : Place) → is_same a a ≡ true
same_itself a = ap is_eq (tied_itself places_total a)

less_is : (o : Ordering) → is_lt o ≡ true → o ≡ Less
less_is Less is = refl
less_is Equal is = absurd (cc is)
less_is Greater is = absurd (cc is)

equal_is : (o : Ordering) → is_eq o ≡ true → o ≡ Equal
equal_is Less is = absurd (cc is)
equal_is Equal is = refl
equal_is Greater is = absurd (cc is)

pub before_trans : (a b c : Place) → is_before a b ≡ true → is_before b c ≡ true → is_before a c ≡ true
before_trans a b c first second = ap is_lt (places_total.trans a b c (less_is (place_cmp a b) first) (less_is (place_cmp b c) second))

less_not_same : (o : Ordering) → is_lt o ≡ true → is_eq o ≡ false
less_not_same Less is = refl
less_not_same Equal is = absurd (cc is)
less_not_same Greater is = refl

reverse_not_same : (o : Ordering) → is_lt o ≡ true → is_eq (ordering_reverse o) ≡ false
reverse_not_same Less is = refl
reverse_not_same Equal is = absurd (cc is)
reverse_not_same Greater is = absurd (cc is)

-- what comes before another is another
pub before_other : (a b : Place) → is_before a b ≡ true → is_same a b ≡ false
before_other a b is = less_not_same (place_cmp a b) is

pub behind_other : (a b : Place) → is_before a b ≡ true → is_same b a ≡ false
behind_other a b is = ap is_eq (places_total.antisymm b a) ∙ reverse_not_same (place_cmp a b) is

-- what comparing tells
pub is_less : (a b : Place) → place_cmp a b ≡ Less → is_before a b ≡ true
is_less a b is = ap is_lt is

pub is_greater : (a b : Place) → place_cmp a b ≡ Greater → is_before b a ≡ true
is_greater a b is = ap is_lt (places_total.antisymm b a ∙ ap ordering_reverse is)

pub is_equal : (a b : Place) → place_cmp a b ≡ Equal → a ≡ b
is_equal a b is = same_place a b (ap is_eq is)

reverse_less : (o : Ordering) → is_lt o ≡ true → is_lt (ordering_reverse o) ≡ false
reverse_less Less is = refl
reverse_less Equal is = absurd (cc is)
reverse_less Greater is = absurd (cc is)

-- nothing comes before what comes before it
pub not_before : (a b : Place) → is_before a b ≡ true → is_before b a ≡ false
not_before a b is = ap is_lt (places_total.antisymm b a) ∙ reverse_less (place_cmp a b) is

by_order : (a b : Place) (o : Ordering) → place_cmp a b ≡ o → (a ≡ b) ⊎ ((is_before a b ≡ true) ⊎ (is_before b a ≡ true))
by_order a b Less is = inr (inl (is_less a b is))
by_order a b Equal is = inl (is_equal a b is)
by_order a b Greater is = inr (inr (is_greater a b is))

-- of two places one comes first, or they are one
pub in_order : (a b : Place) → (a ≡ b) ⊎ ((is_before a b ≡ true) ⊎ (is_before b a ≡ true))
in_order a b = by_order a b (place_cmp a b) refl

reverse_greater : (o : Ordering) → is_lt (ordering_reverse o) ≡ is_gt o
reverse_greater Less = refl
reverse_greater Equal = refl
reverse_greater Greater = refl

-- what is greater comes behind
pub greater_is_behind : (a b : Place) → is_gt (place_cmp a b) ≡ is_before b a
greater_is_behind a b = sym (ap is_lt (places_total.antisymm b a) ∙ reverse_greater (place_cmp a b))

-- nothing comes before itself
pub never : (a : Place) → is_before a a ≡ false
never a = ap is_lt (tied_itself places_total a)
