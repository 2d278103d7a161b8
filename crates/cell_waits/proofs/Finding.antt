-- What is found by the indices.
use Rattle.std.proofs.Common.{◌≡◌, ◌∙◌, ◌+◌, ◌-◌, ◌≤◌, ◌&&◌, ◌||◌, ℕ, suc, Bool, true, false, List, [], ◌∷◌, Option, Some, None, nat_lt, map, cond, refl, ap, lt-ltb, arith}
use Rattle.std.proofs.lemmas.List.Sums.{sum_by-cons}
use Rattle.std.specs.List.{count_by, find, list_any, slice_get}
use Rattle.dura_value.specs.Ids.{Id}
use Rattle.dura_model.specs.World.{Activity}
use Rattle.cell_waits.specs.declared.wait.Wait.{Wait}
use Rattle.cell_waits.specs.Waits.{Waiting, wait_of, is_of_task, is_activity, is_outcome_of}
use Rattle.cell_waits.specs.Indices.{places_of}

any_by : (b : Bool) (count : ℕ) (any : Bool) → nat_lt 0 count ≡ any → nat_lt 0 (cond b 1 0 + count) ≡ (b || any)
any_by true count any is = lt-ltb 0 (1 + count) (omega arith)
any_by false count any is = ap (nat_lt 0) (omega arith) ∙ is

-- there is one that passes where more than none does
pub some_pass : (p : Waiting → Bool) (ws : List Waiting) → nat_lt 0 (count_by p ws) ≡ list_any p ws
some_pass p [] = refl
some_pass p (w ∷ ws) = ap (nat_lt 0) (sum_by-cons (λ (x : Waiting). cond (p x) 1 0) w ws) ∙ any_by (p w) (count_by p ws) (list_any p ws) (some_pass p ws)

none_by : (b : Bool) (w : Waiting) (first : ℕ) (rest : List ℕ) (found : Option Waiting) → slice_get (cond b (first ∷ rest) rest) 0 ≡ None → (slice_get rest 0 ≡ None → found ≡ None) → cond b (Some w) found ≡ None
none_by true w first rest found none more = absurd (cc none)
none_by false w first rest found none more = more none

-- none is found where none has a place
pub none_placed : (p : Waiting → Bool) (first : ℕ) (ws : List Waiting) → slice_get (places_of p first ws) 0 ≡ None → find p ws ≡ None
none_placed p first [] none = refl
none_placed p first (w ∷ ws) none = none_by (p w) w first (places_of p (first + 1) ws) (find p ws) none (none_placed p (first + 1) ws)

-- what is found lies at the first place
pub record IsPlaced (p : Waiting → Bool) (first place : ℕ) (ws : List Waiting) : Type 0 where
  pub later : first ≤ place
  pub found : slice_get ws (place - first) ≡ find p ws

some_same : (a b : ℕ) → Some a ≡ Some b → a ≡ b
some_same a b is = cc

some_by : (b : Bool) (w : Waiting) (ws : List Waiting) (first place : ℕ) (rest : List ℕ) (found : Option Waiting) → slice_get (cond b (first ∷ rest) rest) 0 ≡ Some place
    → (slice_get rest 0 ≡ Some place → (first + 1 ≤ place) × (slice_get ws (place - (first + 1)) ≡ found)) → (first ≤ place) × (slice_get (w ∷ ws) (place - first) ≡ cond b (Some w) found)
some_by true w ws first place rest found is more =
    let same = some_same first place is in
    let none : place - first ≡ 0 = omega (arith, same) in
    (omega (arith, same), ap (slice_get (w ∷ ws)) none)
some_by false w ws first place rest found is more =
    let further = more is in
    let later = further.0 in
    let next : place - first ≡ suc (place - (first + 1)) = omega (arith, later) in
    (omega (arith, later), ap (slice_get (w ∷ ws)) next ∙ further.1)

pub some_placed : (p : Waiting → Bool) (first : ℕ) (ws : List Waiting) (place : ℕ) → slice_get (places_of p first ws) 0 ≡ Some place → IsPlaced p first place ws
some_placed p first [] place is = absurd (cc is)
some_placed p first (w ∷ ws) place is =
    let both = some_by (p w) w ws first place (places_of p (first + 1) ws) (find p ws) is (λ rest. let more = some_placed p (first + 1) ws place rest in (more.later, more.found)) in
    record { later = both.0; found = both.1 }

no_pass : (b c : Bool) (w : Waiting) (found : Option Waiting) (any : Bool) → cond b (Some w) found ≡ None → (found ≡ None → any ≡ false) → ((b && c) || any) ≡ false
no_pass true c w found any none more = absurd (cc none)
no_pass false c w found any none more = more none

-- where none of a task waits, no outcome of it does
pub none_of_task : (id : Id) (task : ℕ) (activity : Activity) (ws : List Waiting) → find (is_of_task id task) ws ≡ None → list_any (is_outcome_of id task activity) ws ≡ false
none_of_task id task activity [] none = refl
none_of_task id task activity (w ∷ ws) none = no_pass (is_of_task id task w) (is_activity activity w.activity) w (find (is_of_task id task) ws) (list_any (is_outcome_of id task activity) ws) none (none_of_task id task activity ws)

-- a look through what waits, as it is seen
pub any_seen : (p : Waiting → Bool) (items : List Wait) → list_any (λ wait. p (wait_of wait)) items ≡ list_any p (map wait_of items)
any_seen p [] = refl
any_seen p (x ∷ items) = ap (λ (b : Bool). p (wait_of x) || b) (any_seen p items)
