-- The entries of an order are accepted in any other order too in which each can be.
use Rattle.std.proofs.Common.{◌≡◌, ◌≤◌, ◌<◌, ◌+◌, ◌==◌, ℕ, zero, suc, length, Bool, true, false, cond, List, [], ◌∷◌, Option, Some, None, refl, sym, ap, subst, ◌∙◌, ◌++◌, append-nil, length-append, arith}
use Rattle.std.specs.Prelude.{option_map}
use Rattle.std.specs.Option.{option_and_then}
use Rattle.std.proofs.lemmas.Bool.{eqb-true}
use Rattle.dura_value.specs.Items.{Entry}
use Rattle.flow_syntax.specs.Syntax.{Flows}
use Rattle.dura_model.specs.Partition.{Partition, fresh, with_part}
use Rattle.dura_model.proofs.Basics.{eqb_apart}
use Rattle.part_items.specs.Logs.{or_else}
use Rattle.many_logs.specs.Placing.{commit_accepted, Commit, states_after, of_partition, Placing, with_left, takes, lowest, goes_on, placed_in, count_entries, placed_from, placed, AllBelow, HasPlaced, IsStuck}
use Rattle.many_logs.proofs.Basics.{apart_eqb, self_eqb}
use Rattle.many_logs.proofs.Apart.{parts_turned, stays, accepted_still}
use Rattle.many_logs.proofs.Frames.{run_grows, run_leaves}
use Rattle.dura_value.proofs.Basics.{some_same, both_some}

module _ (flows : Flows) (count : ℕ) where
  -- what is left of an order once one of its partitions' next entry was taken
  pub record Rest (parts final : ℕ → Partition) (partition : ℕ) (next : Partition) (entries : List Entry) (run : List Commit) : Type 0 where
    pub rest : List Commit
    pub all : states_after flows count (with_part parts partition next) rest ≡ Some final
    pub here : of_partition partition rest ≡ entries
    pub there : (other : ℕ) → (partition ≡ other → ⊥) → of_partition other rest ≡ of_partition other run
    pub shorter : suc (length rest) ≡ length run
    pub below : AllBelow count run → AllBelow count rest

  pub first_taken : (run : List Commit) (parts final : ℕ → Partition) (partition : ℕ) (entry : Entry) (entries : List Entry) (next : Partition) → states_after flows count parts run ≡ Some final → of_partition partition run ≡ entry ∷ entries
      → commit_accepted flows count parts partition entry ≡ Some next → Rest parts final partition next entries run
  first_taken [] parts final partition entry entries next all here takes_it = absurd (cc here)
  first_taken (one ∷ run) parts final partition entry entries next all here takes_it = by (one.partition == partition) refl here (first_taken run)
    where
      first : (x : Partition) × (commit_accepted flows count parts one.partition one.entry ≡ Some x) × (states_after flows count (with_part parts one.partition x) run ≡ Some final)
      first = both_some (commit_accepted flows count parts one.partition one.entry) (λ x. states_after flows count (with_part parts one.partition x) run) final all

      Earlier : Type 0
      Earlier = (parts final : ℕ → Partition) (partition : ℕ) (entry : Entry) (entries : List Entry) (next : Partition) → states_after flows count parts run ≡ Some final → of_partition partition run ≡ entry ∷ entries
          → commit_accepted flows count parts partition entry ≡ Some next → Rest parts final partition next entries run

      by : (test : Bool) → (one.partition == partition) ≡ test → cond test (one.entry ∷ of_partition partition run) (of_partition partition run) ≡ entry ∷ entries → Earlier → Rest parts final partition next entries (one ∷ run)
      by true same is earlier =
          let at = eqb-true one.partition partition same in
          let its : one.entry ≡ entry = cc is in
          let makes : commit_accepted flows count parts partition entry ≡ Some first.0 = subst (λ (p : ℕ). commit_accepted flows count parts p entry ≡ Some first.0) at (subst (λ (e : Entry). commit_accepted flows count parts one.partition e ≡ Some first.0) its first.1) in
          let state : first.0 ≡ next = some_same (sym makes ∙ takes_it) in
          record {
            rest = run;
            all = subst (λ (p : ℕ). states_after flows count (with_part parts p next) run ≡ Some final) at (subst (λ (x : Partition). states_after flows count (with_part parts one.partition x) run ≡ Some final) state first.2);
            here = cc is;
            there = λ other apart. sym (ap (λ (b : Bool). cond b (one.entry ∷ of_partition other run) (of_partition other run)) (apart_eqb one.partition other (λ wrong. apart (sym at ∙ wrong))));
            shorter = refl;
            below = λ low. low.1;
          }
      by false apart is earlier =
          let away : one.partition ≡ partition → ⊥ = eqb_apart one.partition partition apart in
          let later = earlier (with_part parts one.partition first.0) final partition entry entries next first.2 is (stays flows count parts one.partition partition one.entry entry first.0 next away first.1 takes_it) in
          let still = stays flows count parts partition one.partition entry one.entry next first.0 (λ wrong. away (sym wrong)) takes_it first.1 in
          record {
            rest = one ∷ later.rest;
            all =
                ap (option_and_then (λ x. states_after flows count (with_part (with_part parts partition next) one.partition x) later.rest)) still
                ∙ ap (λ (states : ℕ → Partition). states_after flows count states later.rest) (parts_turned parts partition one.partition next first.0 (λ wrong. away (sym wrong)))
                ∙ later.all;
            here = ap (λ (b : Bool). cond b (one.entry ∷ of_partition partition later.rest) (of_partition partition later.rest)) apart ∙ later.here;
            there = λ other off. ap (λ (l : List Entry). cond (one.partition == other) (one.entry ∷ l) l) (later.there other off);
            shorter = ap suc later.shorter;
            below = λ low. (low.0, later.below low.1);
          }

  -- ---- the lowest that can

  -- which partition took which entry
  pub record Took (most : ℕ) (s next : Placing) : Type 0 where
    pub partition : ℕ
    pub below : partition < most
    pub entry : Entry
    pub entries : List Entry
    pub first : s.left partition ≡ entry ∷ entries
    pub state : Partition
    pub accepted : commit_accepted flows count s.states partition entry ≡ Some state
    pub is : record { states = with_part s.states partition state; left = with_left s.left partition entries } ≡ next

  wider : (most : ℕ) (s next : Placing) → Took most s next → Took (suc most) s next
  wider most s next t = record { partition = t.partition; below = omega (arith, t.below); entry = t.entry; entries = t.entries; first = t.first; state = t.state; accepted = t.accepted; is = t.is }

  takes_took : (most : ℕ) (s next : Placing) (entries : List Entry) → s.left most ≡ entries → takes flows count s most entries ≡ Some next → Took (suc most) s next
  takes_took most s next [] left is = absurd (cc is)
  takes_took most s next (entry ∷ entries) left is = by (commit_accepted flows count s.states most entry) refl is
    where
      by : (made : Option Partition) → commit_accepted flows count s.states most entry ≡ made → option_map (λ state. record { states = with_part s.states most state; left = with_left s.left most entries }) made ≡ Some next → Took (suc most) s next
      by None made it = absurd (cc it)
      by (Some state) made it = record { partition = most; below = omega arith; entry = entry; entries = entries; first = left; state = state; accepted = made; is = some_same it }

  pub lowest_took : (most : ℕ) (s next : Placing) → lowest flows count most s ≡ Some next → Took most s next
  lowest_took zero s next is = absurd (cc is)
  lowest_took (suc most) s next is = by (lowest flows count most s) refl is (lowest_took most s)
    where
      by : (found : Option Placing) → lowest flows count most s ≡ found → or_else found (takes flows count s most (s.left most)) ≡ Some next → ((other : Placing) → lowest flows count most s ≡ Some other → Took most s other) → Took (suc most) s next
      by None found it lower = takes_took most s next (s.left most) refl it
      by (Some other) found it lower = wider most s next (lower next (found ∙ it))

  -- where one can, one does
  pub lowest_takes : (most : ℕ) (s : Placing) (partition : ℕ) (entry : Entry) (entries : List Entry) (state : Partition) → partition < most → s.left partition ≡ entry ∷ entries → commit_accepted flows count s.states partition entry ≡ Some state
      → lowest flows count most s ≡ None → ⊥
  lowest_takes zero s partition entry entries state low left can none = omega (arith, low)
  lowest_takes (suc most) s partition entry entries state low left can none = by (lowest flows count most s) refl none (partition == most) refl (lowest_takes most s partition entry entries state)
    where
      by : (found : Option Placing) → lowest flows count most s ≡ found → or_else found (takes flows count s most (s.left most)) ≡ None → (last : Bool) → (partition == most) ≡ last
          → (partition < most → s.left partition ≡ entry ∷ entries → commit_accepted flows count s.states partition entry ≡ Some state → lowest flows count most s ≡ None → ⊥) → ⊥
      by (Some other) found wrong_it last is lower = cc wrong_it
      by None found wrong_it true is lower =
          let at = eqb-true partition most is in
          let here : s.left most ≡ entry ∷ entries = subst (λ (p : ℕ). s.left p ≡ entry ∷ entries) at left in
          let there : commit_accepted flows count s.states most entry ≡ Some state = subst (λ (p : ℕ). commit_accepted flows count s.states p entry ≡ Some state) at can in
          let it : takes flows count s most (s.left most) ≡ Some (record { states = with_part s.states most state; left = with_left s.left most entries }) =
          ap (λ (l : List Entry). takes flows count s most l) here ∙ ap (option_map (λ x. record { states = with_part s.states most x; left = with_left s.left most entries })) there in
          let wrong = sym it ∙ wrong_it in cc wrong
      by None found wrong_it false is lower = let apart = eqb_apart partition most is in lower (omega (arith, low, apart)) left can found

  -- ---- again and again

  -- the entries that are left, of the first so many partitions, are those of this order and then these
  abbrev pub IsLeft : Placing → List Commit → (ℕ → List Entry) → Type 0
  IsLeft s run rest = (partition : ℕ) → partition < count → s.left partition ≡ of_partition partition run ++ rest partition

  pub greedy : (often : ℕ) (run : List Commit) (s : Placing) (final : ℕ → Partition) (rest : ℕ → List Entry) → length run ≤ often → AllBelow count run → states_after flows count s.states run ≡ Some final → IsLeft s run rest → IsStuck flows count final rest
      → HasPlaced count (placed_in flows count often s) final rest
  greedy zero [] s final rest short low all left stuck = record { states = some_same all; left = left }
  greedy zero (one ∷ run) s final rest short low all left stuck = absurd (omega (arith, short))
  greedy (suc often) run s final rest short low all left stuck = by (lowest flows count count s) refl (greedy often)
    where
      Earlier : Type 0
      Earlier = (run : List Commit) (s : Placing) (final : ℕ → Partition) (rest : ℕ → List Entry) → length run ≤ often → AllBelow count run → states_after flows count s.states run ≡ Some final → IsLeft s run rest → IsStuck flows count final rest
          → HasPlaced count (placed_in flows count often s) final rest

      -- where none can, nothing of the order is left
      at_end : (order : List Commit) → AllBelow count order → states_after flows count s.states order ≡ Some final → IsLeft s order rest → lowest flows count count s ≡ None → HasPlaced count s final rest
      at_end [] below every is none = record { states = some_same every; left = is }
      at_end (one ∷ order) below every is none =
          let first = both_some (commit_accepted flows count s.states one.partition one.entry) (λ x. states_after flows count (with_part s.states one.partition x) order) final every in
          let its : s.left one.partition ≡ one.entry ∷ (of_partition one.partition order ++ rest one.partition) =
          is one.partition below.0 ∙ ap (λ (b : Bool). cond b (one.entry ∷ of_partition one.partition order) (of_partition one.partition order) ++ rest one.partition) (self_eqb one.partition) in
          absurd (lowest_takes count s one.partition one.entry (of_partition one.partition order ++ rest one.partition) first.0 below.0 its first.1 none)

      by : (found : Option Placing) → lowest flows count count s ≡ found → Earlier → HasPlaced count (goes_on s found (λ next. placed_in flows count often next)) final rest
      by None found earlier = at_end run low all left found
      by (Some next) found earlier = taken (lowest_took count s next found)
        where
          taken : Took count s next → HasPlaced count (placed_in flows count often next) final rest
          taken took = split (of_partition took.partition run) refl
            where
              its : took.entry ∷ took.entries ≡ of_partition took.partition run ++ rest took.partition
              its = sym took.first ∙ left took.partition took.below

              split : (mine : List Entry) → of_partition took.partition run ≡ mine → HasPlaced count (placed_in flows count often next) final rest
              split [] none =
                  let next_is : rest took.partition ≡ took.entry ∷ took.entries = sym (its ∙ ap (λ (l : List Entry). l ++ rest took.partition) none) in
                  let still = accepted_still flows count s.states final took.partition took.entry took.state (run_grows flows count run s.states final all) (run_leaves flows count run s.states final took.partition all none) took.accepted in
                  let wrong = sym still ∙ stuck took.partition took.below took.entry took.entries next_is in
                  absurd (cc wrong)
              split (entry ∷ entries) is =
                  let same : took.entry ∷ took.entries ≡ entry ∷ (entries ++ rest took.partition) = its ∙ ap (λ (l : List Entry). l ++ rest took.partition) is in
                  let first : took.entry ≡ entry = cc same in
                  let others : took.entries ≡ entries ++ rest took.partition = cc same in
                  let mine : of_partition took.partition run ≡ took.entry ∷ entries = is ∙ ap (λ (e : Entry). e ∷ entries) (sym first) in
                  let less = first_taken run s.states final took.partition took.entry entries took.state all mine took.accepted in
                  let after : Placing = record { states = with_part s.states took.partition took.state; left = with_left s.left took.partition took.entries } in
                  subst (λ (t : Placing). HasPlaced count (placed_in flows count often t) final rest) took.is
                  (earlier less.rest after final rest (omega (arith, short, less.shorter)) (less.below low) less.all (λ partition below. lefts entries others less partition below (took.partition == partition) refl) stuck)
                where
                  lefts : (entries : List Entry) → took.entries ≡ entries ++ rest took.partition → (less : Rest s.states final took.partition took.state entries run) (partition : ℕ) → partition < count → (test : Bool) → (took.partition == partition) ≡ test
                      → cond test took.entries (s.left partition) ≡ of_partition partition less.rest ++ rest partition
                  lefts entries others less partition below true same = others ∙ ap (λ (l : List Entry). l ++ rest took.partition) (sym less.here) ∙ ap (λ (p : ℕ). of_partition p less.rest ++ rest p) (eqb-true took.partition partition same)
                  lefts entries others less partition below false apart = left partition below ∙ ap (λ (l : List Entry). l ++ rest partition) (sym (less.there partition (eqb_apart took.partition partition apart)))

  -- ---- how often

  size_one : (most : ℕ) (one : Commit) (run : List Commit) → one.partition < most → count_entries most (λ partition. of_partition partition (one ∷ run)) ≡ suc (count_entries most (λ partition. of_partition partition run))
  size_one zero one run low = absurd (omega (arith, low))
  size_one (suc most) one run low = by (one.partition == most) refl (size_one most one run)
    where
      Lower : Type 0
      Lower = one.partition < most → count_entries most (λ partition. of_partition partition (one ∷ run)) ≡ suc (count_entries most (λ partition. of_partition partition run))

      same_size : (n : ℕ) → n ≤ one.partition → count_entries n (λ partition. of_partition partition (one ∷ run)) ≡ count_entries n (λ partition. of_partition partition run)
      same_size zero below = refl
      same_size (suc n) below =
          let before = same_size n (omega (arith, below)) in
          let apart : (one.partition == n) ≡ false = apart_eqb one.partition n (λ wrong. omega (arith, wrong, below)) in
          let last = ap (λ (b : Bool). length (cond b (one.entry ∷ of_partition n run) (of_partition n run))) apart in
          omega (arith, before, last)

      by : (test : Bool) → (one.partition == most) ≡ test → Lower → count_entries most (λ partition. of_partition partition (one ∷ run)) + length (cond (one.partition == most) (one.entry ∷ of_partition most run) (of_partition most run)) ≡ suc (count_entries most (λ partition. of_partition partition run) + length (of_partition most run))
      by true same lower =
          let at = eqb-true one.partition most same in
          let before = same_size most (omega (arith, at)) in
          let last = ap (λ (b : Bool). length (cond b (one.entry ∷ of_partition most run) (of_partition most run))) same in
          omega (arith, before, last)
      by false apart lower =
          let off = eqb_apart one.partition most apart in
          let before = lower (omega (arith, low, off)) in
          let last = ap (λ (b : Bool). length (cond b (one.entry ∷ of_partition most run) (of_partition most run))) apart in
          omega (arith, before, last)

  size_all : (run : List Commit) → AllBelow count run → count_entries count (λ partition. of_partition partition run) ≡ length run
  size_all [] low = nothing count
    where
      nothing : (n : ℕ) → count_entries n (λ partition. []) ≡ 0
      nothing zero = refl
      nothing (suc n) = let before = nothing n in omega (arith, before)
  size_all (one ∷ run) low = size_one count one run low.0 ∙ ap suc (size_all run low.1)

  size_more : (most : ℕ) (logs rest : ℕ → List Entry) → count_entries most logs ≤ count_entries most (λ partition. logs partition ++ rest partition)
  size_more zero logs rest = omega arith
  size_more (suc most) logs rest = let before = size_more most logs rest in let last = length-append (logs most) (rest most) in omega (arith, before, last)

  size_same : (most : ℕ) (logs also : ℕ → List Entry) → ((partition : ℕ) → partition < most → logs partition ≡ also partition) → count_entries most logs ≡ count_entries most also
  size_same zero logs also same = refl
  size_same (suc most) logs also same =
      let before = size_same most logs also (λ partition low. same partition (omega (arith, low))) in
      let last = ap (λ (l : List Entry). length l) (same most (omega arith)) in
      omega (arith, before, last)

  -- In whatever order entries were accepted until no next one is, the lowest first leaves the same, and the states are the same.
  pub any_order_from : (run : List Commit) (begin : ℕ → Partition) (logs rest : ℕ → List Entry) (final : ℕ → Partition) → AllBelow count run → states_after flows count begin run ≡ Some final → ((partition : ℕ) → partition < count → logs partition ≡ of_partition partition run ++ rest partition)
      → IsStuck flows count final rest → HasPlaced count (placed_from flows count begin logs) final rest
  any_order_from run begin logs rest final low all same stuck =
      let size = size_same count logs (λ partition. of_partition partition run ++ rest partition) same in
      let fits = size_more count (λ partition. of_partition partition run) rest in
      let whole = size_all run low in
      greedy (count_entries count logs) run (record { states = begin; left = logs }) final rest (omega (arith, size, fits, whole)) low all same stuck

  pub any_order_so_far : (run : List Commit) (logs rest : ℕ → List Entry) (final : ℕ → Partition) → AllBelow count run → states_after flows count fresh run ≡ Some final → ((partition : ℕ) → partition < count → logs partition ≡ of_partition partition run ++ rest partition)
      → IsStuck flows count final rest → HasPlaced count (placed flows count logs) final rest
  any_order_so_far run logs rest final low all same stuck = any_order_from run fresh logs rest final low all same stuck

  -- In whatever order all entries were accepted, none of them is left.
  pub all_from : (run : List Commit) (begin : ℕ → Partition) (logs : ℕ → List Entry) (final : ℕ → Partition) → AllBelow count run → states_after flows count begin run ≡ Some final → ((partition : ℕ) → partition < count → logs partition ≡ of_partition partition run)
      → HasPlaced count (placed_from flows count begin logs) final (λ partition. [])
  all_from run begin logs final low all same = any_order_from run begin logs (λ partition. []) final low all (λ partition below. same partition below ∙ sym (append-nil (of_partition partition run))) (λ partition below entry entries is. absurd (cc is))

  pub any_order : (run : List Commit) (logs : ℕ → List Entry) (final : ℕ → Partition) → AllBelow count run → states_after flows count fresh run ≡ Some final → ((partition : ℕ) → partition < count → logs partition ≡ of_partition partition run)
      → HasPlaced count (placed flows count logs) final (λ partition. [])
  any_order run logs final low all same = all_from run fresh logs final low all same
