-- Places that differ by their second numbers alone.
use Rattle.std.proofs.Common.{◌≡◌, ◌∙◌, ◌≤◌, ℕ, Bool, true, false, cond, Option, Some, None, is_some, refl, ap, sym, ltb-false, le-ltb, nat_lt, ◌==◌, Ordering, Less, Equal, Greater}
use Rattle.std.specs.Cmp.{nat_cmp_total, tied_itself}
use Rattle.std.specs.Cmp.Lexicographic.{options_total}
use Rattle.std.specs.Ordering.{is_eq, is_lt, is_gt, nat_cmp, ordering_then}
use Rattle.std.specs.Option.{option_cmp}
use Rattle.dura_value.specs.declared.addresses.Id.{Id}
use Rattle.dura_value.specs.contracts.addresses.IdOrd.TheImpl.Laws.{total-law}
use Rattle.shared_trees.specs.Ids.{id_cmp}
use Rattle.shared_trees.specs.Places.{Place, is_before, is_beside}
use Rattle.shared_trees.specs.Entries.{IsFirstFrom, NoneFrom}
use Rattle.shared_trees.proofs.Orders.{greater_is_behind, both_equal, same_number, same_optional}

lt_by : (a b : Bool) → is_lt (cond a Less (cond b Equal Greater)) ≡ a
lt_by true b = refl
lt_by false true = refl
lt_by false false = refl

pub lt_cmp : (m n : ℕ) → is_lt (nat_cmp m n) ≡ nat_lt m n
lt_cmp m n = lt_by (nat_lt m n) (m == n)

then_then : (a b c : Ordering) → ordering_then a (ordering_then b c) ≡ ordering_then (ordering_then a b) c
then_then Less b c = refl
then_then Equal b c = refl
then_then Greater b c = refl

then_equal : (a b : Ordering) → a ≡ Equal → is_lt (ordering_then a b) ≡ is_lt b
then_equal Less b is = absurd (cc (ap is_eq is))
then_equal Equal b is = refl
then_equal Greater b is = absurd (cc (ap is_eq is))

by_head : (r s t : Ordering) → is_eq r ≡ false → is_gt (ordering_then r s) ≡ false → is_lt (ordering_then r t) ≡ true
by_head Less s t other upto = refl
by_head Equal s t other upto = absurd (cc other)
by_head Greater s t other upto = absurd (cc upto)

nothing_there : {X : Type 0} (o : Option X) → (is_some o ≡ true → ⊥) → o ≡ None
nothing_there None never = refl
nothing_there (Some x) never = absurd (never refl)

module _ (lead : ℕ) (id : Option Id) where
  abbrev at : ℕ → Place
  at n = record { lead = lead; id = id; number = n }

  before_at : (m n : ℕ) → is_before (at m) (at n) ≡ nat_lt m n
  before_at m n =
      then_equal (nat_cmp lead lead) (ordering_then (option_cmp id_cmp id id) (nat_cmp m n)) (tied_itself nat_cmp_total lead)
      ∙ then_equal (option_cmp id_cmp id id) (nat_cmp m n) (tied_itself (options_total total-law) id) ∙ lt_cmp m n

  pub upto_at : (m n : ℕ) → is_before (at m) (at n) ≡ false → n ≤ m
  upto_at m n is = ltb-false m n (sym (before_at m n) ∙ is)

  pub not_before_at : (m n : ℕ) → n ≤ m → is_before (at m) (at n) ≡ false
  not_before_at m n le = before_at m n ∙ le-ltb m n le

  pub beside_is : (from : ℕ) (p : Place) → is_beside (at from) p ≡ true → p ≡ at p.number
  beside_is from p is =
      let both = both_equal (nat_cmp lead p.lead) (option_cmp id_cmp id p.id) is in
      let leads = same_number lead p.lead both.0 in
      let ids = same_optional id p.id both.1 in
      λ i. record { lead = sym leads i; id = sym ids i; number = p.number }

  pub other_behind : (from : ℕ) (p : Place) (m : ℕ) → is_beside (at from) p ≡ false → is_before p (at from) ≡ false → is_before (at m) p ≡ true
  other_behind from p m other behind =
      let r = ordering_then (nat_cmp lead p.lead) (option_cmp id_cmp id p.id) in
      ap is_lt (then_then (nat_cmp lead p.lead) (option_cmp id_cmp id p.id) (nat_cmp m p.number))
      ∙ by_head r (nat_cmp from p.number) (nat_cmp m p.number) other
      (ap is_gt (sym (then_then (nat_cmp lead p.lead) (option_cmp id_cmp id p.id) (nat_cmp from p.number))) ∙ greater_is_behind (at from) p ∙ behind)

  module _ {X : Type 0} (kept : Place → Option X) (from : ℕ) where
    module _ (p : Place) (x : X) (f : IsFirstFrom kept (at from) p x) where
      module _ (beside : is_beside (at from) p ≡ true) where
        pub number_there : is_some (kept (at p.number)) ≡ true
        number_there = ap (λ q. is_some (kept q)) (sym (beside_is from p beside)) ∙ ap is_some f.found

        pub number_behind : from ≤ p.number
        number_behind = upto_at p.number from (ap (λ q. is_before q (at from)) (sym (beside_is from p beside)) ∙ f.behind)

        pub number_least : (other : ℕ) → is_some (kept (at other)) ≡ true → from ≤ other → p.number ≤ other
        number_least other there le = upto_at other p.number (ap (λ q. is_before (at other) q) (sym (beside_is from p beside)) ∙ f.first (at other) there (not_before_at other from le))

      pub none_beside : is_beside (at from) p ≡ false → (n : ℕ) → from ≤ n → kept (at n) ≡ None
      none_beside other n le = nothing_there (kept (at n)) (λ there. cc (sym (other_behind from p n other f.behind) ∙ f.first (at n) there (not_before_at n from le)))

    pub none_at : NoneFrom kept (at from) → (n : ℕ) → from ≤ n → kept (at n) ≡ None
    none_at none n le = none (at n) (not_before_at n from le)
