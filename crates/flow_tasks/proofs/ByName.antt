-- A queue that changes changes the places as a function.
use Rattle.std.proofs.Common.{◌≡◌, ◌∙◌, ℕ, List, [], Bool, true, false, Option, Some, None, IsSome, refl, ap, sym, subst, cond, Result, Ok, Err, OnErr}
use Rattle.std.proofs.lemmas.Map.Text.{is_eq-slice_cmp}
use Rattle.std.proofs.lemmas.Slice.Eq.{bytes_eq-Decides}
use Rattle.std.specs.BTreeMap.{BTreeMap, get, UpdatesBy}
use Rattle.std.specs.Cmp.Lexicographic.{slice_cmp}
use Rattle.std.specs.Ordering.{nat_cmp}
use Rattle.std.specs.Str.{bytes_eq}
use Rattle.std.specs.declared.collections.VecDeque.{VecDeque}
use Rattle.flow_tasks.specs.Numbers.{items_or_none, at_name}

-- the places in queues
abbrev pub seen : {Y : Type 0} → BTreeMap (List ℕ) (VecDeque ℕ Y) → List ℕ → List ℕ
seen m name = items_or_none (get (slice_cmp nat_cmp) m name)

at_key : {Y : Type 0} (b : Bool) (queue : VecDeque ℕ Y) (places : List ℕ) (was : Option (VecDeque ℕ Y)) → queue.items ≡ places → items_or_none (cond b (Some queue) was) ≡ cond b places (items_or_none was)
at_key true queue places was items = items
at_key false queue places was items = refl

-- what a queue of a name is now
pub put : {Y : Type 0} (m n : BTreeMap (List ℕ) (VecDeque ℕ Y)) (name : List ℕ) (queue : VecDeque ℕ Y) (places : List ℕ)
    → UpdatesBy (slice_cmp nat_cmp) (slice_cmp nat_cmp name) m n (Some queue) → queue.items ≡ places → seen n ≡ at_name (seen m) name places
put {Y = Y} m n name queue places updates items = λ i other.
    (ap (λ (o : Option (VecDeque ℕ Y)). items_or_none o) (updates.0 other ∙ ap (λ (b : Bool). cond b (Some queue) (get (slice_cmp nat_cmp) m other)) (is_eq-slice_cmp name other))
    ∙ at_key (bytes_eq name other) queue places (get (slice_cmp nat_cmp) m other) items) i

-- what was lent of a name's queue and changed
pub written : {Y : Type 0} (m n : BTreeMap (List ℕ) (VecDeque ℕ Y)) (name : List ℕ) (was now : VecDeque ℕ Y) (change : List ℕ → List ℕ)
    → get (slice_cmp nat_cmp) m name ≡ Some was → (IsSome (get (slice_cmp nat_cmp) m name) → UpdatesBy (slice_cmp nat_cmp) (slice_cmp nat_cmp name) m n (Some now)) → now.items ≡ change was.items
    → seen n ≡ at_name (seen m) name (change (seen m name))
written {Y = Y} m n name was now change found writes items =
    put m n name now (change (seen m name)) (writes (subst IsSome (sym found) refl)) (items ∙ ap (λ (o : Option (VecDeque ℕ Y)). change (items_or_none o)) (sym found))

either : (b : Bool) (f : List ℕ → List ℕ) (name other : List ℕ) (places : List ℕ) → bytes_eq name other ≡ b → f name ≡ places → cond b places (f other) ≡ f other
either true f name other places same is = sym is ∙ ap f ((bytes_eq-Decides name other).0 same)
either false f name other places same is = refl

-- what a name has already
pub unchanged : (f : List ℕ → List ℕ) (name places : List ℕ) → f name ≡ places → f ≡ at_name f name places
unchanged f name places is = λ i other. sym (either (bytes_eq name other) f name other places refl is) i

-- a queue of a name that was lent and stayed
pub stayed : {Y : Type 0} (m n : BTreeMap (List ℕ) (VecDeque ℕ Y)) (name : List ℕ) (was now : VecDeque ℕ Y)
    → get (slice_cmp nat_cmp) m name ≡ Some was → (IsSome (get (slice_cmp nat_cmp) m name) → UpdatesBy (slice_cmp nat_cmp) (slice_cmp nat_cmp name) m n (Some now)) → now.items ≡ was.items → seen n ≡ seen m
stayed m n name was now found writes items = written m n name was now (λ places. places) found writes items ∙ sym (unchanged (seen m) name (seen m name) refl)

-- the first queue of a name
pub begun : {Y : Type 0} (m n : BTreeMap (List ℕ) (VecDeque ℕ Y)) (name : List ℕ) (now : VecDeque ℕ Y) (change : List ℕ → List ℕ)
    → get (slice_cmp nat_cmp) m name ≡ None → UpdatesBy (slice_cmp nat_cmp) (slice_cmp nat_cmp name) m n (Some now) → now.items ≡ change []
    → seen n ≡ at_name (seen m) name (change (seen m name))
begun {Y = Y} m n name now change absent updates items =
    put m n name now (change (seen m name)) updates (items ∙ ap (λ (o : Option (VecDeque ℕ Y)). change (items_or_none o)) (sym absent))

pub on_err : {X E : Type 0} (r : Result X E) (P : Type 0) → P → OnErr r P
on_err (Ok x) P p = tt
on_err (Err e) P p = p
