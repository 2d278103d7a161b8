-- Items that fill an entry.
use Rattle.std.proofs.Common.{◌≡◌, ◌≤◌, ◌+◌, inl, inr, ℕ, List, [], ◌∷◌, ◌++◌, true, Option, Some, None, refl, sym, ◌∙◌, ap, subst, arith, append_assoc}
use Rattle.std.specs.Prelude.{max, length}
use Rattle.std.specs.Option.{option_and_then}
use Rattle.std.proofs.lemmas.Bool.{eqb-true}
use Rattle.std.specs.List.{All}
use Rattle.std.proofs.lemmas.List.{append-nil, length-append, length-map, map-append}
use Rattle.std.proofs.lemmas.List.Elements.{All-cons, All-append}
use Rattle.dura_model.specs.Entries.{all_accepted, AreGiven}
use Rattle.dura_model.specs.Partition.{Partition, accepted, first_in, delivered_in}
use Rattle.dura_model.specs.Placed.{IsGiven}
use Rattle.dura_model.specs.World.{Activity}
use Rattle.activity_table.specs.Table.{may}
use Rattle.dura_value.specs.Items.{Item, took, got, ran, ended, fired, trim}
use Rattle.dura_value.specs.Messages.{Body}
use Rattle.flow_syntax.specs.Syntax.{Flows}
use Rattle.log_items.specs.Plain.{item_of, items_of}
use Rattle.log_items.specs.declared.items.Item.{Item as OwnItem}
use Rattle.part_steps.specs.Enabled.{Makes, IsEnabled, is_at, stamp_at}
use Rattle.part_steps.specs.Enabled.Makes.{nothing as makes_nothing, one_more as makes_more}
use Rattle.part_steps.specs.Outputs.{Outputs}
use Rattle.part_steps.specs.States.{state_of, count_of, IsSound}
use Rattle.cell_waits.specs.Waits.{Waiting, MayWait}
use Rattle.cell_steps.specs.Fills.{IsFor, CantCome, Filled, IsUnderWay, FillsOn, Puts, LooksOn}
use Rattle.cell_steps.specs.Fills.Filled.{nothing, puts, lets_go, goes_on}
use Rattle.cell_steps.specs.declared.filling.Filling.{Filling}
use Rattle.cell_steps.proofs.Stamps.{stamp_of, stamp_after, raised_max}

module _ (flows : Flows) (count : ℕ) where
  -- what items make where others come behind them
  pub accepted_both : (p : Partition) (a b : List Item) → all_accepted flows count p (a ++ b) ≡ option_and_then (λ q. all_accepted flows count q b) (all_accepted flows count p a)
  accepted_both p [] b = refl
  accepted_both p (item ∷ a) b = by (accepted flows count p item) (λ q. accepted_both q a b)
    where
      by : (made : Option Partition) → ((q : Partition) → all_accepted flows count q (a ++ b) ≡ option_and_then (λ r. all_accepted flows count r b) (all_accepted flows count q a))
          → option_and_then (λ q. all_accepted flows count q (a ++ b)) made ≡ option_and_then (λ r. all_accepted flows count r b) (option_and_then (λ q. all_accepted flows count q a) made)
      by None rest = refl
      by (Some q) rest = rest q

  given_both : (p : Partition) (a b : List Item) → AreGiven flows count p a → ((q : Partition) → all_accepted flows count p a ≡ Some q → AreGiven flows count q b) → AreGiven flows count p (a ++ b)
  given_both p [] b front rest = rest p refl
  given_both p (item ∷ a) b front rest =
      (front.0, λ q is. given_both q a b (front.1 q is) (λ r made. rest r (ap (option_and_then (λ s. all_accepted flows count s a)) is ∙ made)))

-- a delivery or a timer that is accepted is given
step_given : (flows : Flows) (count now : ℕ) (p q : Partition) (item : Item) → is_at item now ≡ true → accepted flows count p item ≡ Some q → IsGiven p item
step_given flows count now p q (ran from to stamp) at is = by (first_in p.queue from to) is
  where
    by : (o : Option Body) → delivered_in flows count p from to stamp o ≡ Some q → o ≡ None → ⊥
    by None made none = cc made
    by (Some body) made none = cc none
step_given flows count now p q (fired id task stamp) at is = tt
step_given flows count now p q (took message) at is = absurd (cc at)
step_given flows count now p q (got source number message) at is = absurd (cc at)
step_given flows count now p q (ended id task outcome) at is = absurd (cc at)
step_given flows count now p q (trim reader number) at is = absurd (cc at)

step_by : (item : Item) (now : ℕ) → is_at item now ≡ true → stamp_of item ≡ now
step_by (ran from to stamp) now at = eqb-true stamp now at
step_by (fired id task stamp) now at = eqb-true stamp now at
step_by (took message) now at = absurd (cc at)
step_by (got source number message) now at = absurd (cc at)
step_by (ended id task outcome) now at = absurd (cc at)
step_by (trim reader number) now at = absurd (cc at)

-- what waits and is for its activity is given, and has no stamp
wait_given : (p : Partition) (activity : Option Activity) (item : Item) → MayWait (record { item = item; activity = activity }) → IsFor p (record { item = item; activity = activity }) → IsGiven p item
wait_given p None (took message) may_wait is_so = tt
wait_given p None (got source number message) may_wait is_so = tt
wait_given p None (trim reader number) may_wait is_so = tt
wait_given p None (ran from to stamp) may_wait is_so = absurd may_wait
wait_given p None (ended id task outcome) may_wait is_so = absurd may_wait
wait_given p None (fired id task stamp) may_wait is_so = absurd may_wait
wait_given p (Some activity) (ended id task outcome) may_wait is_so = λ other pending.
    let same : activity ≡ other = cc (is_so, pending) in
    subst (λ (a : Activity). may a.name a.argument outcome ≡ true) same may_wait
wait_given p (Some activity) (took message) may_wait is_so = absurd is_so
wait_given p (Some activity) (got source number message) may_wait is_so = absurd is_so
wait_given p (Some activity) (trim reader number) may_wait is_so = absurd is_so
wait_given p (Some activity) (ran from to stamp) may_wait is_so = absurd is_so
wait_given p (Some activity) (fired id task stamp) may_wait is_so = absurd is_so

wait_still : (p : Partition) (activity : Option Activity) (item : Item) → MayWait (record { item = item; activity = activity }) → IsFor p (record { item = item; activity = activity }) → stamp_of item ≡ 0
wait_still p activity (took message) may_wait is_so = refl
wait_still p activity (got source number message) may_wait is_so = refl
wait_still p activity (trim reader number) may_wait is_so = refl
wait_still p activity (ended id task outcome) may_wait is_so = refl
wait_still p None (ran from to stamp) may_wait is_so = absurd may_wait
wait_still p None (fired id task stamp) may_wait is_so = absurd may_wait
wait_still p (Some activity) (ran from to stamp) may_wait is_so = absurd is_so
wait_still p (Some activity) (fired id task stamp) may_wait is_so = absurd is_so

module _ (flows : Flows) (count now : ℕ) where
  so_filled : {from q : Partition} {a b : List Waiting} {c d : List Item} → a ≡ b → c ≡ d → Filled flows count now from a c q → Filled flows count now from b d q
  so_filled {from} {q} {a} {b} {c} {d} first second filled = subst (λ (l : List Item). Filled flows count now from b l q) second (subst (λ (l : List Waiting). Filled flows count now from l c q) first filled)

  pub filled_both : {from middle to : Partition} {a b : List Waiting} {c d : List Item} → Filled flows count now from a c middle → Filled flows count now middle b d to → Filled flows count now from (a ++ b) (c ++ d) to
  filled_both {from} {middle} {to} {a} {b} {c} {d} first nothing = so_filled (sym (append-nil a)) (sym (append-nil c)) first
  filled_both {from} {middle} {to} {a} {b} {c} {d} first (puts {looked} {items} before w may_wait is_so is) =
      so_filled (append_assoc a looked (w ∷ [])) (append_assoc c items (w.item ∷ [])) (puts (filled_both first before) w may_wait is_so is)
  filled_both {from} {middle} {to} {a} {b} {c} {d} first (lets_go {looked} before w cant) =
      so_filled (append_assoc a looked (w ∷ [])) refl (lets_go (filled_both first before) w cant)
  filled_both {from} {middle} {to} {a} {b} {c} {d} first (goes_on {looked} {items} before item at is) =
      so_filled refl (append_assoc c items (item ∷ [])) (goes_on (filled_both first before) item at is)

  pub makes_filled : {first p : Partition} {items : List Item} {made : List Outputs} → Makes flows count now first items made p → Filled flows count now first [] items p
  makes_filled makes_nothing = nothing
  makes_filled (makes_more {items} {made} {p} {q} before item at is) = goes_on (makes_filled before) item at is

  one_accepted : (from p q : Partition) (items : List Item) (item : Item) → all_accepted flows count from items ≡ Some p → accepted flows count p item ≡ Some q → all_accepted flows count from (items ++ item ∷ []) ≡ Some q
  one_accepted from p q items item before is =
      accepted_both flows count from items (item ∷ []) ∙ ap (option_and_then (λ s. all_accepted flows count s (item ∷ []))) before ∙ ap (option_and_then (λ s. all_accepted flows count s [])) is

  pub filled_accepted : {from to : Partition} {looked : List Waiting} {items : List Item} → Filled flows count now from looked items to → all_accepted flows count from items ≡ Some to
  filled_accepted nothing = refl
  filled_accepted {from} (puts {looked} {items} {p} {q} before w may_wait is_so is) = one_accepted from p q items w.item (filled_accepted before) is
  filled_accepted (lets_go before w cant) = filled_accepted before
  filled_accepted {from} (goes_on {looked} {items} {p} {q} before item at is) = one_accepted from p q items item (filled_accepted before) is

  one_given : (from p : Partition) (items : List Item) (item : Item) → all_accepted flows count from items ≡ Some p → AreGiven flows count from items → IsGiven p item → AreGiven flows count from (items ++ item ∷ [])
  one_given from p items item made before own =
      given_both flows count from items (item ∷ []) before
      (λ s is. let same : p ≡ s = cc (made, is) in subst (λ (x : Partition). AreGiven flows count x (item ∷ [])) same (own, λ next step. tt))

  pub filled_given : {from to : Partition} {looked : List Waiting} {items : List Item} → Filled flows count now from looked items to → AreGiven flows count from items
  filled_given nothing = tt
  filled_given {from} (puts {looked} {items} {p} {q} before w may_wait is_so is) = one_given from p items w.item (filled_accepted before) (filled_given before) (wait_given p w.activity w.item may_wait is_so)
  filled_given (lets_go before w cant) = filled_given before
  filled_given {from} (goes_on {looked} {items} {p} {q} before item at is) = one_given from p items item (filled_accepted before) (filled_given before) (step_given flows count (stamp_at p now) p q item at is)

  pub filled_by : {from to : Partition} {looked : List Waiting} {items : List Item} → Filled flows count now from looked items to → to.stamp ≤ max from.stamp now
  filled_by nothing = omega arith
  filled_by {from} (puts {looked} {items} {p} {q} before w may_wait is_so is) =
      let low = filled_by before in
      let after = stamp_after flows count p q w.item is in
      let own = wait_still p w.activity w.item may_wait is_so in
      omega (arith, low, after, own)
  filled_by (lets_go before w cant) = filled_by before
  filled_by {from} (goes_on {looked} {items} {p} {q} before item at is) =
      let low = filled_by before in
      let after = stamp_after flows count p q item is in
      let own = step_by item (stamp_at p now) at in
      let raised = raised_max p now in
      omega (arith, low, after, own, raised)

  not_empty : (items : List Item) (item : Item) → items ++ item ∷ [] ≡ [] → ⊥
  not_empty items item none = let lengths : length items + 1 ≡ 0 = sym (length-append items (item ∷ [])) ∙ ap length none in omega (arith, lengths)

  none_all : (P : Waiting → Type 0) → All P []
  none_all P = λ k d inside. absurd (omega (arith, inside))

  -- where no item came in, the state is as it was, and nothing that was looked at was possible there
  pub filled_nothing : {from to : Partition} {looked : List Waiting} {items : List Item} → Filled flows count now from looked items to → items ≡ [] → (to ≡ from) × All (CantCome flows count from) looked
  filled_nothing {from} nothing none = (refl, none_all (CantCome flows count from))
  filled_nothing (puts {looked} {items} before w may_wait is_so is) none = absurd (not_empty items w.item none)
  filled_nothing {from} (lets_go {looked} {items} {p} before w cant) none =
      let rest = filled_nothing before none in
      (rest.0, All-append (CantCome flows count from) looked (w ∷ []) rest.1 (All-cons (CantCome flows count from) w [] (subst (λ (x : Partition). CantCome flows count x w) rest.0 cant) (none_all (CantCome flows count from))))
  filled_nothing (goes_on {looked} {items} before item at is) none = absurd (not_empty items item none)

-- nothing more came in
pub on_still : (flows : Flows) (now : ℕ) (filling : Filling) → IsUnderWay filling → FillsOn flows now filling filling [] []
on_still flows now filling way = record { way = way; count = refl; items = sym (append-nil (items_of filling.items.items)); filled = nothing }

pub on_both : (flows : Flows) (now : ℕ) (a b c : Filling) (looked also : List Waiting) (first second : List Item) → FillsOn flows now a b looked first → FillsOn flows now b c also second → FillsOn flows now a c (looked ++ also) (first ++ second)
on_both flows now a b c looked also first second one two = record {
  way = two.way;
  count = two.count ∙ one.count;
  items = two.items ∙ ap (λ (l : List Item). l ++ second) one.items ∙ append_assoc (items_of a.items.items) first second;
  filled = filled_both flows (count_of a.state) now one.filled (subst (λ (n : ℕ). Filled flows n now (state_of b.state) also second (state_of c.state)) one.count two.filled);
}

pub looks_still : (flows : Flows) (now : ℕ) (filling : Filling) (waits : List Waiting) → IsUnderWay filling → LooksOn flows now filling filling waits waits
looks_still flows now filling waits way = record { looked = []; more = []; left = refl; on = on_still flows now filling way }

pub looks_both : (flows : Flows) (now : ℕ) (a b c : Filling) (first middle last : List Waiting) → LooksOn flows now a b first middle → LooksOn flows now b c middle last → LooksOn flows now a c first last
looks_both flows now a b c first middle last one two = record {
  looked = one.looked ++ two.looked;
  more = one.more ++ two.more;
  left = one.left ∙ ap (λ (l : List Waiting). one.looked ++ l) two.left ∙ sym (append_assoc one.looked two.looked last);
  on = on_both flows now a b c one.looked two.looked one.more two.more one.on two.on;
}

-- the items get no fewer, and what waits no more
pub looks_grow : (flows : Flows) (now : ℕ) (a b : Filling) (before rest : List Waiting) → LooksOn flows now a b before rest → length a.items.items ≤ length b.items.items
looks_grow flows now a b before rest looks =
    let both : length (items_of b.items.items) ≡ length (items_of a.items.items) + length looks.more = ap length looks.on.items ∙ length-append (items_of a.items.items) looks.more in
    let first = length-map a.items.items item_of in
    let second = length-map b.items.items item_of in
    omega (arith, both, first, second)

pub looks_leave : (flows : Flows) (now : ℕ) (a b : Filling) (before rest : List Waiting) → (looks : LooksOn flows now a b before rest) → length before ≡ length looks.looked + length rest
looks_leave flows now a b before rest looks = ap length looks.left ∙ length-append looks.looked rest

-- deliveries and timers behind the others
pub filled_on : (flows : Flows) (now : ℕ) (old new : Filling) (more : List OwnItem) (made : List Outputs) → Makes flows (count_of old.state) now (state_of old.state) (items_of more) made (state_of new.state)
    → new.items.items ≡ old.items.items ++ more → IsUnderWay new → count_of new.state ≡ count_of old.state → (waits : List Waiting) → LooksOn flows now old new waits waits
filled_on flows now old new more made makes items way count waits = record {
  looked = [];
  more = items_of more;
  left = refl;
  on = record {
    way = way;
    count = count;
    items = ap items_of items ∙ map-append item_of old.items.items more;
    filled = makes_filled flows (count_of old.state) now makes;
  };
}

-- what waits was put where it was accepted, or let go of
pub put_looks : (flows : Flows) (now : ℕ) (old new : Filling) (item : OwnItem) (w : Waiting) (rest : List Waiting) → w.item ≡ item_of item → MayWait w → IsFor (state_of old.state) w → IsUnderWay old → Puts flows old item new → LooksOn flows now old new (w ∷ rest) rest
put_looks flows now old new item w rest same may_wait is_so way made = elim made.2 [
  | inl put ↦ record {
    looked = w ∷ [];
    more = w.item ∷ [];
    left = refl;
    on = record {
      way = made.0;
      count = made.1;
      items = put.1 ∙ ap (λ (i : Item). items_of old.items.items ++ i ∷ []) (sym same);
      filled = puts nothing w may_wait is_so (ap (accepted flows (count_of old.state) (state_of old.state)) same ∙ put.0);
    };
  }
  | inr refused ↦ record {
    looked = w ∷ [];
    more = [];
    left = refl;
    on = record {
      way = made.0;
      count = made.1;
      items = ap (λ v. items_of v.items) refused.2 ∙ sym (append-nil (items_of old.items.items));
      filled = subst (λ (p : Partition). Filled flows (count_of old.state) now (state_of old.state) (w ∷ []) [] p) (sym refused.1)
          (lets_go nothing w (λ so. ap (accepted flows (count_of old.state) (state_of old.state)) same ∙ refused.0));
    };
  }
]

-- what waits for an activity that isn't pending is let go of
pub pass_looks : (flows : Flows) (now : ℕ) (filling : Filling) (w : Waiting) (rest : List Waiting) → (IsFor (state_of filling.state) w → ⊥) → IsUnderWay filling → LooksOn flows now filling filling (w ∷ rest) rest
pass_looks flows now filling w rest never way = record {
  looked = w ∷ [];
  more = [];
  left = refl;
  on = record { way = way; count = refl; items = sym (append-nil (items_of filling.items.items)); filled = lets_go nothing w (λ so. absurd (never so)) };
}

-- an item that is accepted is put
pub accepted_puts : (flows : Flows) (old new : Filling) (item : OwnItem) → IsUnderWay old → accepted flows (count_of old.state) (state_of old.state) (item_of item) ≡ Some (state_of new.state)
    → count_of new.state ≡ count_of old.state → (state_of new.state).position ≡ (state_of old.state).position → IsSound new.state → new.items.items ≡ old.items.items ++ item ∷ [] → Puts flows old item new
accepted_puts flows old new item way made count position sound items = (
  record { sound = sound; begun = omega (arith, position, way.begun) },
  count,
  inl (made, ap items_of items ∙ map-append item_of old.items.items (item ∷ [])),
)

-- one item more is one longer
pub longer_by : (old new : List OwnItem) (item : Item) → items_of new ≡ items_of old ++ item ∷ [] → length new ≡ length old + 1
longer_by old new item is = sym (length-map new item_of) ∙ ap length is ∙ length-append (items_of old) (item ∷ []) ∙ ap (λ (n : ℕ). n + 1) (length-map old item_of)

-- a delivery or a timer that is possible is put
pub step_looks : (flows : Flows) (now : ℕ) (old new : Filling) (item : OwnItem) → IsUnderWay old → Puts flows old item new → IsEnabled flows (count_of old.state) (state_of old.state) (stamp_at (state_of old.state) now) (item_of item) → (waits : List Waiting) → LooksOn flows now old new waits waits
step_looks flows now old new item way made enabled waits = elim made.2 [
  | inl put ↦ record {
    looked = [];
    more = item_of item ∷ [];
    left = refl;
    on = record {
      way = made.0;
      count = made.1;
      items = put.1;
      filled = goes_on nothing (item_of item) enabled.at put.0;
    };
  }
  | inr refused ↦ absurd (let taken = enabled.taken in let not = refused.0 in cc (taken, not))
]

pub step_longer : (flows : Flows) (now : ℕ) (old new : Filling) (item : OwnItem) → Puts flows old item new → IsEnabled flows (count_of old.state) (state_of old.state) (stamp_at (state_of old.state) now) (item_of item) → length new.items.items ≡ length old.items.items + 1
step_longer flows now old new item made enabled = elim made.2 [
  | inl put ↦ longer_by old.items.items new.items.items (item_of item) put.1
  | inr refused ↦ absurd (let taken = enabled.taken in let not = refused.0 in cc (taken, not))
]

-- more timers
pub looks_more : (flows : Flows) (now : ℕ) (a b c : Filling) → ((waits : List Waiting) → LooksOn flows now a b waits waits) → ((waits : List Waiting) → LooksOn flows now b c waits waits) → (waits : List Waiting) → LooksOn flows now a c waits waits
looks_more flows now a b c first second waits = looks_both flows now a b c waits waits waits (first waits) (second waits)
