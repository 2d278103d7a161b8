-- Where entries were placed, no next one is accepted.
use Rattle.std.proofs.Common.{◌≡◌, ◌<◌, ◌≤◌, ◌==◌, ◌+◌, ℕ, zero, suc, Bool, true, false, cond, List, [], ◌∷◌, length, Option, Some, None, refl, sym, ap, ◌∙◌, subst, eqb-true, arith}
use Rattle.dura_value.specs.Items.{Entry}
use Rattle.flow_syntax.specs.Syntax.{Flows}
use Rattle.dura_model.specs.Partition.{Partition, with_part}
use Rattle.dura_model.proofs.Basics.{eqb_apart}
use Rattle.many_logs.specs.Placing.{Placing, with_left, lowest, goes_on, placed_in, count_entries, placed, commit_accepted, IsStuck}
use Rattle.many_logs.proofs.Basics.{apart_eqb}
use Rattle.many_logs.proofs.Orders.{Took, lowest_took, lowest_takes}

-- ---- how many are left

none_of_size : (most : ℕ) (left : ℕ → List Entry) → count_entries most left ≤ 0 → (partition : ℕ) → partition < most → left partition ≡ []
none_of_size zero left few partition below = absurd (omega arith)
none_of_size (suc most) left few partition below = by (partition == most) refl (none_of_size most left (omega (arith, few)) partition)
  where
    empty : (entries : List Entry) → length entries ≤ 0 → entries ≡ []
    empty [] few = refl
    empty (entry ∷ entries) few = absurd (omega arith)

    by : (test : Bool) → (partition == most) ≡ test → (partition < most → left partition ≡ []) → left partition ≡ []
    by true is lower = subst (λ (p : ℕ). left p ≡ []) (sym (eqb-true partition most is)) (empty (left most) (omega (arith, few)))
    by false apart lower = lower (let off = eqb_apart partition most apart in omega (arith, below, off))

module _ (left : ℕ → List Entry) (partition : ℕ) (entry : Entry) (entries : List Entry) (first : left partition ≡ entry ∷ entries) where
  same_below : (n : ℕ) → n ≤ partition → count_entries n (with_left left partition entries) ≡ count_entries n left
  same_below zero low = refl
  same_below (suc n) low =
      ap (λ (m : ℕ). m + length (with_left left partition entries n)) (same_below n (omega (arith, low)))
      ∙ ap (λ (b : Bool). count_entries n left + length (cond b entries (left n))) (apart_eqb partition n (λ wrong. omega (arith, wrong, low)))

  count_less : (most : ℕ) → partition < most → suc (count_entries most (with_left left partition entries)) ≡ count_entries most left
  count_less zero below = absurd (omega arith)
  count_less (suc most) below = by (partition == most) refl (count_less most)
    where
      by : (test : Bool) → (partition == most) ≡ test → (partition < most → suc (count_entries most (with_left left partition entries)) ≡ count_entries most left) → suc (count_entries most (with_left left partition entries) + length (with_left left partition entries most)) ≡ count_entries most left + length (left most)
      by true is earlier =
          let at : partition ≡ most = eqb-true partition most is in
          let lower = same_below most (omega (arith, at)) in
          let here = ap (λ (b : Bool). length (cond b entries (left most))) is in
          let all : length (left most) ≡ suc (length entries) = ap (λ (l : List Entry). length l) (subst (λ (p : ℕ). left p ≡ entry ∷ entries) at first) in
          omega (arith, lower, here, all)
      by false apart earlier =
          let lower = earlier (let off = eqb_apart partition most apart in omega (arith, below, off)) in
          let here = ap (λ (b : Bool). length (cond b entries (left most))) apart in
          omega (arith, lower, here)

-- ---- what is placed

module _ (flows : Flows) (count : ℕ) where
  none_next : (s : Placing) → lowest flows count count s ≡ None → IsStuck flows count s.states s.left
  none_next s none partition below entry entries left = by (commit_accepted flows count s.states partition entry) refl
    where
      by : (o : Option Partition) → commit_accepted flows count s.states partition entry ≡ o → commit_accepted flows count s.states partition entry ≡ None
      by None is = is
      by (Some state) is = absurd (lowest_takes flows count count s partition entry entries state below left is none)

  stuck_in : (often : ℕ) (s : Placing) → count_entries count s.left ≤ often → IsStuck flows count (placed_in flows count often s).states (placed_in flows count often s).left
  stuck_in zero s few = λ partition below entry entries left.
      let none : [] ≡ entry ∷ entries = sym (none_of_size count s.left few partition below) ∙ left in absurd (cc none)
  stuck_in (suc often) s few = by (lowest flows count count s) refl (stuck_in often)
    where
      Stuck : Placing → Type 0
      Stuck t = IsStuck flows count t.states t.left

      by : (found : Option Placing) → lowest flows count count s ≡ found → ((t : Placing) → count_entries count t.left ≤ often → Stuck (placed_in flows count often t)) → Stuck (goes_on s found (λ next. placed_in flows count often next))
      by None none later = none_next s none
      by (Some next) found later =
          let took = lowest_took flows count count s next found in
          let fewer = count_less s.left took.partition took.entry took.entries took.first count took.below in
          later next (subst (λ (t : Placing). count_entries count t.left ≤ often) took.is (omega (arith, fewer, few)))

  pub placed_stuck : (logs : ℕ → List Entry) → IsStuck flows count (placed flows count logs).states (placed flows count logs).left
  placed_stuck logs = stuck_in (count_entries count logs) _ (omega arith)
