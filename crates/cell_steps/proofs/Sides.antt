-- Which side of a turn is first, by the items that an entry begins with.
use Rattle.std.proofs.Common.{◌≡◌, ◌∙◌, ◌<◌, ◌+◌, inl, inr, ℕ, true, List, [], ◌∷◌, ◌++◌, refl, sym, ap, subst, arith}
use Rattle.std.specs.Prelude.{length}
use Rattle.std.proofs.lemmas.List.{length-append, length-map}
use Rattle.cell_waits.specs.Waits.{Waiting}
use Rattle.dura_model.specs.Partition.{Partition}
use Rattle.dura_value.specs.Items.{Item, took, got, ran, ended, fired, trim}
use Rattle.flow_syntax.specs.Syntax.{Flows}
use Rattle.log_items.specs.Plain.{item_of, items_of}
use Rattle.log_items.specs.declared.items.Item.{Item as OwnItem}
use Rattle.part_steps.specs.Enabled.{NoneEnabled, IsEnabled, FiresFirst, is_at, stamp_at}
use Rattle.part_steps.specs.States.{state_of, count_of}
use Rattle.cell_steps.specs.Fills.{Filled, Puts, LooksOn, PutsFirstDue}
use Rattle.cell_steps.specs.Fills.Filled.{nothing, puts, lets_go, goes_on}
use Rattle.cell_steps.specs.Possible.{is_own, Begins}
use Rattle.cell_steps.specs.declared.filling.Filling.{Filling}
use Rattle.cell_steps.proofs.Filled.{filled_nothing}

-- what items begin with they begin with where others come behind them
pub begins_more : (P : Item → Type 0) (items more : List Item) → Begins P items → Begins P (items ++ more)
begins_more P [] more begins = absurd begins
begins_more P (item ∷ items) more begins = begins

-- what is done at a stamp is a delivery or a timer
own_at : (item : Item) (stamp : ℕ) → is_at item stamp ≡ true → is_own item ≡ true
own_at (ran from to own) stamp at = refl
own_at (fired id task own) stamp at = refl
own_at (took message) stamp at = absurd (cc at)
own_at (got source number message) stamp at = absurd (cc at)
own_at (ended id task outcome) stamp at = absurd (cc at)
own_at (trim reader number) stamp at = absurd (cc at)

-- one item more, which is the first where there was none
begins_by : (items : List Item) (item : Item) → is_own item ≡ true → ((items ≡ [] → ⊥) → Begins (λ i. is_own i ≡ true) items) → Begins (λ i. is_own i ≡ true) (items ++ item ∷ [])
begins_by [] item own before = own
begins_by (first ∷ items) item own before = before (λ none. cc none)

no_wait : (looked : List Waiting) (w : Waiting) → looked ++ w ∷ [] ≡ [] → ⊥
no_wait looked w none = let lengths : length looked + 1 ≡ 0 = sym (length-append looked (w ∷ [])) ∙ ap length none in omega (arith, lengths)

module _ (flows : Flows) (count now : ℕ) where
  -- where nothing was looked at that waits, the items are deliveries and timers
  own_filled : {from to : Partition} {looked : List Waiting} {items : List Item} → Filled flows count now from looked items to → looked ≡ [] → (items ≡ [] → ⊥) → Begins (λ i. is_own i ≡ true) items
  own_filled nothing none some = absurd (some refl)
  own_filled (puts {looked} {items} before w may_wait is_so is) none some = absurd (no_wait looked w none)
  own_filled (lets_go {looked} {items} before w cant) none some = absurd (no_wait looked w none)
  own_filled (goes_on {looked} {items} {p} {q} before item at is) none some = begins_by items item (own_at item (stamp_at p now) at) (own_filled before none)

nothing_looked : (looked : List Waiting) → [] ≡ looked ++ [] → looked ≡ []
nothing_looked [] is = refl
nothing_looked (w ∷ looked) is = absurd (cc is)

-- a filling without items that goes on by deliveries and timers, where one is possible
pub own_first : (flows : Flows) (now share : ℕ) (begun next : Filling) → begun.items.items ≡ [] → LooksOn flows now begun next [] [] → 0 < share
    → (length next.items.items < share → NoneEnabled flows (count_of begun.state) (state_of next.state) (stamp_at (state_of next.state) now))
    → (NoneEnabled flows (count_of begun.state) (state_of begun.state) (stamp_at (state_of begun.state) now) → ⊥) → Begins (λ i. is_own i ≡ true) (items_of next.items.items)
own_first flows now share begun next empty looks some less possible =
    let items_are : items_of next.items.items ≡ looks.more = looks.on.items ∙ ap (λ (l : List OwnItem). items_of l ++ looks.more) empty in
    let none : looks.looked ≡ [] = nothing_looked looks.looked looks.left in
    subst (Begins (λ i. is_own i ≡ true)) (sym items_are)
    (own_filled flows (count_of begun.state) now looks.on.filled none (λ empty_more.
    let still = (filled_nothing flows (count_of begun.state) now looks.on.filled empty_more).0 in
    let long : length next.items.items ≡ 0 = sym (length-map next.items.items item_of) ∙ ap length (items_are ∙ empty_more) in
    possible (subst (λ (p : Partition). NoneEnabled flows (count_of begun.state) p (stamp_at p now)) still (less (omega (arith, long, some))))))

-- a filling that goes on behind its items begins with what they begin with
pub begins_on : (P : Item → Type 0) (flows : Flows) (now : ℕ) (old new : Filling) (before rest : List Waiting) → LooksOn flows now old new before rest → Begins P (items_of old.items.items) → Begins P (items_of new.items.items)
begins_on P flows now old new before rest looks begins = subst (Begins P) (sym looks.on.items) (begins_more P (items_of old.items.items) looks.more begins)

-- a filling without items to which the timer that is due first is put begins with it
pub fires_first : (p : Partition) (stamp : ℕ) (begun next : Filling) → begun.items.items ≡ [] → PutsFirstDue p stamp begun next → Begins (FiresFirst p stamp) (items_of next.items.items)
fires_first p stamp begun next empty made =
    let items_are : items_of next.items.items ≡ made.item ∷ [] = made.items ∙ ap (λ (l : List OwnItem). items_of l ++ made.item ∷ []) empty in
    subst (Begins (FiresFirst p stamp)) (sym items_are) made.first

-- the items behind which a delivery or a timer is put
pub step_items : (flows : Flows) (old new : Filling) (item : OwnItem) (stamp : ℕ) → Puts flows old item new → IsEnabled flows (count_of old.state) (state_of old.state) stamp (item_of item) → items_of new.items.items ≡ items_of old.items.items ++ item_of item ∷ []
step_items flows old new item stamp made enabled = elim made.2 [
  | inl put ↦ put.1
  | inr refused ↦ absurd (let taken = enabled.taken in let not = refused.0 in cc (taken, not))
]
