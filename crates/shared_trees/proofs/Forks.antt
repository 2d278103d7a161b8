-- A tree that is a fork.
use Rattle.std.proofs.Common.{◌≡◌, Bool, true, List, [], ◌∷◌, ◌++◌, Option, Some, None, ap, sym, ◌∙◌, subst, false, option_map, append-nil, Less, Equal, Greater, ◌<◌, length, length-append, arith}
use Rattle.std.specs.declared.alloc.Global.{Global}
use Rattle.std.specs.declared.sync.Arc.{Arc}
use Rattle.std.specs.Option.{option_or}
use Rattle.shared_trees.specs.declared.tree.Fork.{Fork}
use Rattle.shared_trees.specs.Places.{Place, place_cmp, place_of, is_before}
use Rattle.shared_trees.specs.Tree.{entries, fork_entries, kept_value}
use Rattle.shared_trees.specs.Entries.{Entries, find, first_from, IsSorted, Changes}
use Rattle.shared_trees.proofs.Orders.{is_less, is_greater, is_equal}
use Rattle.shared_trees.proofs.Parts.{Parts, parts, find_left, find_right, find_middle, left_changes, right_changes, middle_changes, middle_gone, first_right, first_not_passed, changed_again}

-- What is known of a tree's entries d at a fork.
pub record AtFork {X : Type 0} (d : Entries X) (fork : Fork X) : Type 0 where
  pub is : d ≡ fork_entries fork
  pub sides : Parts fork.left (place_of fork.key) fork.right

pub sides_of : {X : Type 0} (d : Entries X) (fork : Fork X) → d ≡ fork_entries fork → IsSorted d → AtFork d fork
sides_of d fork is sorted = record { is = is; sides = parts fork.left (place_of fork.key) (kept_value fork.value) fork.right (subst IsSorted is sorted) }

pub at_fork : {X : Type 0} {root : Option (Arc (Fork X) Global)} {d : Entries X} {arc : Arc (Fork X) Global} {fork : Fork X}
    → entries root ≡ d → IsSorted d → root ≡ Some arc → fork ≡ arc.value → AtFork d fork
at_fork {X} {root} {d} {arc} {fork} view sorted is here = sides_of d fork (sym view ∙ ap entries is ∙ ap fork_entries (sym here)) sorted

-- a fork with the same entries is where the tree is a fork
pub at_same_fork : {X : Type 0} {root : Option (Arc (Fork X) Global)} {d : Entries X} {arc : Arc (Fork X) Global} {fork other : Fork X}
    → entries root ≡ d → IsSorted d → root ≡ Some arc → fork_entries other ≡ fork_entries arc.value → fork ≡ other → AtFork d fork
at_same_fork {X} {root} {d} {arc} {fork} {other} view sorted is same here = sides_of d fork (sym view ∙ ap entries is ∙ sym same ∙ ap fork_entries (sym here)) sorted

module _ {X : Type 0} {d : Entries X} {fork : Fork X} (f : AtFork d fork) (q : Place) where
  pub goes_left : place_cmp q (place_of fork.key) ≡ Less → find d q ≡ find fork.left q
  goes_left h = ap (λ es. find es q) f.is ∙ find_left fork.left (place_of fork.key) fork.right f.sides (kept_value fork.value) q (is_less q (place_of fork.key) h)

  pub goes_right : place_cmp q (place_of fork.key) ≡ Greater → find d q ≡ find fork.right q
  goes_right h = ap (λ es. find es q) f.is ∙ find_right fork.left (place_of fork.key) fork.right f.sides (kept_value fork.value) q (is_greater q (place_of fork.key) h)

  pub is_here : place_cmp q (place_of fork.key) ≡ Equal → find d q ≡ kept_value fork.value
  is_here h = ap (λ es. find es q) f.is ∙ find_middle fork.left (place_of fork.key) fork.right f.sides (kept_value fork.value) q (sym (is_equal q (place_of fork.key) h))

module _ {X : Type 0} {d : Entries X} {fork : Fork X} (f : AtFork d fork) (b : Bool) (key : Place) (w : Option X) where
  pub changes_here : {new : Entries X} → Changes (fork_entries fork) new b key w → Changes d new b key w
  changes_here {new} c = subst (λ es. Changes es new b key w) (sym f.is) c

  pub changes_left : (new : Entries X) → place_cmp key (place_of fork.key) ≡ Less → Changes fork.left new b key w → Changes d (new ++ (place_of fork.key, kept_value fork.value) ∷ fork.right) b key w
  changes_left new h c = changes_here (left_changes fork.left (place_of fork.key) (kept_value fork.value) fork.right new f.sides b key w (is_less key (place_of fork.key) h) c)

  pub changes_right : (new : Entries X) → place_cmp key (place_of fork.key) ≡ Greater → Changes fork.right new b key w → Changes d (fork.left ++ (place_of fork.key, kept_value fork.value) ∷ new) b key w
  changes_right new h c = changes_here (right_changes fork.left (place_of fork.key) (kept_value fork.value) fork.right new f.sides b key w (is_greater key (place_of fork.key) h) c)

module _ {X : Type 0} {d : Entries X} {fork : Fork X} (f : AtFork d fork) (key : Place) (same : place_cmp key (place_of fork.key) ≡ Equal) where
  pub changes_middle : (y : Option X) → Changes d (fork.left ++ (place_of fork.key, y) ∷ fork.right) true key y
  changes_middle y =
      subst (λ k. Changes d (fork.left ++ (place_of fork.key, y) ∷ fork.right) true k y) (sym (is_equal key (place_of fork.key) same))
      (changes_here f true (place_of fork.key) y (middle_changes fork.left (place_of fork.key) (kept_value fork.value) y fork.right f.sides))

longer_left : {E : Type 0} (l : List E) (e : E) (r : List E) → length l < length (l ++ e ∷ r)
longer_left l e r = omega (arith, length-append l (e ∷ r))

longer_right : {E : Type 0} (l : List E) (e : E) (r : List E) → length r < length (l ++ e ∷ r)
longer_right l e r = omega (arith, length-append l (e ∷ r))

module _ {X : Type 0} {d : Entries X} {fork : Fork X} (f : AtFork d fork) where
  -- each side has fewer entries
  pub fewer_left : length fork.left < length d
  fewer_left = subst (λ (es : Entries X). length fork.left < length es) (sym f.is) (longer_left fork.left (place_of fork.key, kept_value fork.value) fork.right)

  pub fewer_right : length fork.right < length d
  fewer_right = subst (λ (es : Entries X). length fork.right < length es) (sym f.is) (longer_right fork.left (place_of fork.key, kept_value fork.value) fork.right)

module _ {X : Type 0} {d : Entries X} {fork : Fork X} (f : AtFork d fork) (from : Place) where
  abbrev after_left : Option (Place × X)
  after_left = option_or (option_map (λ (y : X). (place_of fork.key, y)) (kept_value fork.value)) (first_from fork.right from)

  pub first_behind : is_before (place_of fork.key) from ≡ true → first_from d from ≡ first_from fork.right from
  first_behind h = ap (λ es. first_from es from) f.is ∙ first_right fork.left (place_of fork.key) (kept_value fork.value) fork.right from f.sides h

  not_passed : is_before (place_of fork.key) from ≡ false → first_from d from ≡ option_or (first_from fork.left from) after_left
  not_passed h = ap (λ es. first_from es from) f.is ∙ first_not_passed fork.left (place_of fork.key) (kept_value fork.value) fork.right from h

  pub first_on_left : (one : Place × X) → is_before (place_of fork.key) from ≡ false → first_from fork.left from ≡ Some one → first_from d from ≡ Some one
  first_on_left one h found = not_passed h ∙ ap (λ o. option_or o after_left) found

  pub first_here : (x : X) → is_before (place_of fork.key) from ≡ false → first_from fork.left from ≡ None → kept_value fork.value ≡ Some x → first_from d from ≡ Some (place_of fork.key, x)
  first_here x h none is = not_passed h ∙ ap (λ o. option_or o after_left) none ∙ ap (λ o. option_or (option_map (λ (y : X). (place_of fork.key, y)) o) (first_from fork.right from)) is

  pub first_on_right : is_before (place_of fork.key) from ≡ false → first_from fork.left from ≡ None → kept_value fork.value ≡ None → first_from d from ≡ first_from fork.right from
  first_on_right h none is = not_passed h ∙ ap (λ o. option_or o after_left) none ∙ ap (λ o. option_or (option_map (λ (y : X). (place_of fork.key, y)) o) (first_from fork.right from)) is

module _ {X : Type 0} {d : Entries X} {fork : Fork X} (f : AtFork d fork) where
  gap : (new : Entries X) → fork.left ++ fork.right ≡ new → Changes d new true (place_of fork.key) None
  gap new is = subst (λ es. Changes d es true (place_of fork.key) None) is
      (changes_here f true (place_of fork.key) None (middle_gone fork.left (place_of fork.key) (kept_value fork.value) fork.right f.sides))

  -- the first entry on the right takes the place of the one that goes
  pub gap_closed : (e : Place × Option X) (rest : Entries X) → fork.right ≡ e ∷ rest → Changes d (fork.left ++ e ∷ rest) true (place_of fork.key) None
  gap_closed e rest is = gap (fork.left ++ e ∷ rest) (ap (λ es. fork.left ++ es) is)

  -- there is nothing on the right of the one that goes
  pub gap_at_end : fork.right ≡ [] → Changes d fork.left true (place_of fork.key) None
  gap_at_end is = gap fork.left (ap (λ es. fork.left ++ es) is ∙ append-nil fork.left)

  -- an entry without a value may stay
  pub gap_stays : (right : Entries X) → kept_value fork.value ≡ None → right ≡ fork.right → Changes d (fork.left ++ (place_of fork.key, kept_value fork.value) ∷ right) true (place_of fork.key) None
  gap_stays right none same =
      subst (λ es. Changes d (fork.left ++ (place_of fork.key, kept_value fork.value) ∷ es) true (place_of fork.key) None) (sym same)
      (subst (λ w. Changes d (fork.left ++ (place_of fork.key, w) ∷ fork.right) true (place_of fork.key) None) (sym none)
      (changes_here f true (place_of fork.key) None (middle_changes fork.left (place_of fork.key) (kept_value fork.value) None fork.right f.sides)))

  -- an entry whose value was taken, and then its gap
  pub emptied : (key : Place) (w : Option X) (new : Entries X) → place_cmp key (place_of fork.key) ≡ Equal → w ≡ None
      → Changes (fork.left ++ (place_of fork.key, w) ∷ fork.right) new true (place_of fork.key) None → Changes d new true key None
  emptied key w new same none closed =
      let empty = subst (λ v. Changes d (fork.left ++ (place_of fork.key, w) ∷ fork.right) true (place_of fork.key) v) none
      (changes_here f true (place_of fork.key) w (middle_changes fork.left (place_of fork.key) (kept_value fork.value) w fork.right f.sides)) in
      subst (λ k. Changes d new true k None) (sym (is_equal key (place_of fork.key) same))
      (changed_again d (fork.left ++ (place_of fork.key, w) ∷ fork.right) new (place_of fork.key) empty closed)
