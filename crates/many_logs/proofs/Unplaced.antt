-- Entries are left just where there is a reason.
use Rattle.std.proofs.Common.{◌≡◌, ◌<◌, ◌&&◌, ◌==◌, inl, inr, ◌⊎◌, ℕ, zero, suc, Bool, true, false, cond, if◌then◌else◌, List, [], ◌∷◌, Option, Some, None, option_map, refl, sym, ap, ◌∙◌, subst, arith}
use Rattle.std.proofs.lemmas.Bool.{cases_eq}
use Rattle.std.specs.Option.{option_and_then}
use Rattle.dura_value.specs.Items.{Item, Entry}
use Rattle.flow_syntax.specs.Syntax.{Flows}
use Rattle.dura_model.specs.Entries.{all_accepted}
use Rattle.dura_model.specs.Partition.{Partition, enter, accepted}
use Rattle.part_items.specs.Logs.{or_else}
use Rattle.part_items.proofs.LogsNumbered.{no_more}
use Rattle.many_logs.specs.Placing.{Commit, Placing, is_ready, are_ready, commit_accepted, IsStuck, placed}
use Rattle.many_logs.specs.Unplaced.{Unplaced, unplaced_by, or_behind, first_refused, next_of, lowest_left, why, why_of, unplaced}
use Rattle.many_logs.proofs.Stuck.{placed_stuck}

-- an item is refused, or all are accepted
module _ (flows : Flows) (count : ℕ) (parts : ℕ → Partition) (partition : ℕ) where
  all_pass : (items : List Item) (p : Partition) → first_refused flows count parts partition p items ≡ None → (are_ready parts partition items ≡ true) × ((next : Partition) × (all_accepted flows count p items ≡ Some next))
  all_pass [] p none = (refl, (p, refl))
  all_pass (item ∷ items) p none = by (is_ready parts partition item) (accepted flows count p item) refl refl none (all_pass items)
    where
      by : (ready : Bool) (o : Option Partition) → is_ready parts partition item ≡ ready → accepted flows count p item ≡ o
          → (if ready then or_behind item o (λ next. first_refused flows count parts partition next items) else Some item) ≡ None
          → ((q : Partition) → first_refused flows count parts partition q items ≡ None → (are_ready parts partition items ≡ true) × ((next : Partition) × (all_accepted flows count q items ≡ Some next)))
          → (is_ready parts partition item && are_ready parts partition items ≡ true) × ((next : Partition) × (option_and_then (λ next. all_accepted flows count next items) (accepted flows count p item) ≡ Some next))
      by true (Some next) ready made is behind =
          let rest = behind next is in
          (ap (λ (b : Bool). b && are_ready parts partition items) ready ∙ rest.0, (rest.1.0, ap (option_and_then (λ next. all_accepted flows count next items)) made ∙ rest.1.1))
      by true None ready made is behind = absurd (cc is)
      by false o ready made is behind = absurd (cc is)

  pub refused_has_item : (entry : Entry) → commit_accepted flows count parts partition entry ≡ None → first_refused flows count parts partition (enter entry.incarnation (parts partition)) entry.items ≡ None → ⊥
  refused_has_item entry refused none =
      let all = all_pass entry.items (enter entry.incarnation (parts partition)) none in
      let taken : commit_accepted flows count parts partition entry ≡ Some all.1.0 = ap (λ (b : Bool). if b then all_accepted flows count (enter entry.incarnation (parts partition)) entry.items else None) all.0 ∙ all.1.1 in
      let wrong : None ≡ Some all.1.0 = sym refused ∙ taken in
      cc wrong

next_none : (partition : ℕ) (entries : List Entry) → next_of partition entries ≡ None → entries ≡ []
next_none partition [] is = refl
next_none partition (entry ∷ entries) is = absurd (cc is)

-- none is left of the partitions below
none_below : (most : ℕ) (s : Placing) → lowest_left most s ≡ None → (partition : ℕ) → partition < most → s.left partition ≡ []
none_below zero s none partition below = absurd (omega arith)
none_below (suc most) s none partition below =
    let both = no_more (lowest_left most s) (next_of most (s.left most)) none in
    elim (cases_eq partition most) [
      | inl is ↦ subst (λ (p : ℕ). s.left p ≡ []) (sym is) (next_none most (s.left most) both.1)
      | inr apart ↦ none_below most s both.0 partition (omega (arith, below, apart))
    ]

-- the lowest one is a next entry of its partition
record Leaves (s : Placing) (most : ℕ) (one : Commit) : Type 0 where
  below : one.partition < most
  behind : List Entry
  left : s.left one.partition ≡ one.entry ∷ behind

next_some : (s : Placing) (partition : ℕ) (one : Commit) (entries : List Entry) → s.left partition ≡ entries → next_of partition entries ≡ Some one → Leaves s (suc partition) one
next_some s partition one [] left is = absurd (cc is)
next_some s partition one (entry ∷ behind) left is = subst (Leaves s (suc partition)) same (record { below = omega arith; behind = behind; left = left })
  where
    same : ◌≡◌ {A = Commit} (record { partition = partition; entry = entry }) one
    same = cc is

lowest_leaves : (most : ℕ) (s : Placing) (one : Commit) → lowest_left most s ≡ Some one → Leaves s most one
lowest_leaves zero s one is = absurd (cc is)
lowest_leaves (suc most) s one is = by (lowest_left most s) refl is (lowest_leaves most s one)
  where
    by : (o : Option Commit) → lowest_left most s ≡ o → or_else o (next_of most (s.left most)) ≡ Some one → (lowest_left most s ≡ Some one → Leaves s most one) → Leaves s (suc most) one
    by (Some first) found same earlier = let lower = earlier (found ∙ same) in record { below = omega (arith, lower.below); behind = lower.behind; left = lower.left }
    by None found same earlier = next_some s most one (s.left most) refl same

no_item : (f : Item → Unplaced) (o : Option Item) → option_map f o ≡ None → o ≡ None
no_item f None is = refl
no_item f (Some item) is = absurd (cc is)

-- a reason is there where an entry is left
pub left_has_reason : (flows : Flows) (count : ℕ) (logs : ℕ → List Entry) → unplaced flows count (placed flows count logs) ≡ None → (partition : ℕ) → partition < count → (placed flows count logs).left partition ≡ []
left_has_reason flows count logs none = by (lowest_left count s) refl none
  where
    s : Placing
    s = placed flows count logs

    by : (o : Option Commit) → lowest_left count s ≡ o → why_of flows count s.states o ≡ None → (partition : ℕ) → partition < count → s.left partition ≡ []
    by None is none = none_below count s is
    by (Some one) is none =
        let it = lowest_leaves count s one is in
        let stuck = placed_stuck flows count logs one.partition it.below one.entry it.behind it.left in
        absurd (refused_has_item flows count s.states one.partition one.entry stuck (no_item (unplaced_by one.partition one.entry.position) _ none))

nothing_lowest : (most : ℕ) (s : Placing) → ((partition : ℕ) → partition < most → s.left partition ≡ []) → lowest_left most s ≡ None
nothing_lowest zero s none = refl
nothing_lowest (suc most) s none =
    ap (λ (o : Option Commit). or_else o (next_of most (s.left most))) (nothing_lowest most s (λ partition below. none partition (omega (arith, below))))
    ∙ ap (next_of most) (none most (omega arith))

pub none_has_none : (flows : Flows) (count : ℕ) (logs : ℕ → List Entry) → ((partition : ℕ) → partition < count → (placed flows count logs).left partition ≡ []) → unplaced flows count (placed flows count logs) ≡ None
none_has_none flows count logs none = ap (why_of flows count (placed flows count logs).states) (nothing_lowest count (placed flows count logs) none)
