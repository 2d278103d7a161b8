-- One number of an id after another is taken out.
use Rattle.std.proofs.Common.{◌≡◌, ◌∙◌, ◌&&◌, ◌==◌, ◌<◌, ◌≤◌, ◌+◌, inl, inr, ℕ, Bool, true, false, cond, Option, Some, None, is_some, refl, ap, sym, arith}
use Rattle.std.proofs.lemmas.Bool.{cases_order}
use Rattle.dura_value.specs.Ids.{Id, id_eq}
use Rattle.dura_value.specs.ById.{at_number, cleared}
use Rattle.dura_value.proofs.Ids.{id_same, id_self}

cond_apart : {X : Type 0} (b c : Bool) (o : Option X) → b ≡ false → cond (b && c) None o ≡ o
cond_apart true c o is = absurd (cc is)
cond_apart false c o is = refl

cond_none : {X : Type 0} (b : Bool) (o : Option X) → o ≡ None → cond b None o ≡ None
cond_none true o is = refl
cond_none false o is = is

cond_here : {X : Type 0} (b c : Bool) (o : Option X) → b ≡ true → c ≡ true → cond (b && c) None o ≡ None
cond_here true c o first is = ap (λ (d : Bool). cond d None o) is
cond_here false c o first is = absurd (cc first)

no_value : {X : Type 0} (o : Option X) → (is_some o ≡ true → ⊥) → o ≡ None
no_value None never = refl
no_value (Some x) never = absurd (never refl)

module _ {X : Type 0} (id : Id) where
  -- at other ids all is as it was
  abbrev pub StaysApart : (was now : Id → ℕ → Option X) → Type 0
  StaysApart was now = (other : Id) (n : ℕ) → id_eq id other ≡ false → now other n ≡ was other n

  -- the numbers below this one are gone
  abbrev pub AreGone : (now : Id → ℕ → Option X) → ℕ → Type 0
  AreGone now from = (n : ℕ) → n < from → now id n ≡ None

  module _ (was now next : Id → ℕ → Option X) (from number : ℕ) (is : next ≡ at_number now id number None) where
    pub still_apart : StaysApart was now → StaysApart was next
    still_apart apart other n off = ap (λ (f : Id → ℕ → Option X). f other n) is ∙ cond_apart (id_eq id other) (number == n) (now other n) off ∙ apart other n off

    pub gone_too : AreGone now from → ((other : ℕ) → is_some (now id other) ≡ true → from ≤ other → number ≤ other) → AreGone next (number + 1)
    gone_too gone least n below = ap (λ (f : Id → ℕ → Option X). f id n) is ∙ elim (cases_order number n) [
      | inl same ↦ cond_here (id_eq id id) (number == n) (now id n) (id_self id) (grind (arith, same))
      | inr other ↦ elim other [
        | inl less ↦ absurd (omega (arith, less, below))
        | inr less ↦ cond_none (id_eq id id && number == n) (now id n) (elim (cases_order from n) [
          | inl same ↦ no_value (now id n) (λ there. let upto = least n there (omega (arith, same)) in omega (arith, less, upto))
          | inr side ↦ elim side [
            | inl behind ↦ no_value (now id n) (λ there. let upto = least n there (omega (arith, behind)) in omega (arith, less, upto))
            | inr before ↦ gone n before
          ]
        ])
      ]
    ]

  by_eq : (was now : Id → ℕ → Option X) (other : Id) (n : ℕ) (b : Bool) → id_eq id other ≡ b → StaysApart was now → ((m : ℕ) → now id m ≡ None) → now other n ≡ cond b None (was other n)
  by_eq was now other n true same apart none = ap (λ (k : Id). now k n) (sym (id_same id other same)) ∙ none n
  by_eq was now other n false off apart none = apart other n off

  pub all_cleared : (was now : Id → ℕ → Option X) (from : ℕ) → StaysApart was now → AreGone now from → ((n : ℕ) → from ≤ n → now id n ≡ None) → now ≡ cleared was id
  all_cleared was now from apart gone none = λ i other n. by_eq was now other n (id_eq id other) refl apart (λ m. elim (cases_order from m) [
    | inl same ↦ none m (omega (arith, same))
    | inr side ↦ elim side [
      | inl behind ↦ none m (omega (arith, behind))
      | inr before ↦ gone m before
    ]
  ]) i
