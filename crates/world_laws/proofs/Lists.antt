-- Lists.
use Rattle.std.proofs.Common.{◌≡◌, ◌<◌, ◌≤◌, ◌∙◌, ℕ, zero, suc, ◌+◌, List, [], ◌∷◌, ◌++◌, length, take, drop, Some, refl, sym, ap, subst, arith, slice_get}
use Rattle.std.specs.List.{Contains}
use Rattle.std.proofs.lemmas.Grind.{flat_map-append}
use Rattle.std.proofs.lemmas.List.{take-append-drop}
use Rattle.std.proofs.lemmas.List.Elements.{Contains-append_left, Contains-append_right}
use Rattle.dura_value.specs.Items.{Item, Entry}
use Rattle.log_items.specs.Entries.{items_in, AreInTurn}

-- what is long enough begins with what all begins with
pub fronts : {X : Type 0} (xs ys front back : List X) → xs ++ ys ≡ front ++ back → length front ≤ length xs → (rest : List X) × (xs ≡ front ++ rest)
fronts xs ys [] back same long = (xs, refl)
fronts [] ys (a ∷ front) back same long = absurd (let none : suc (length front) ≤ 0 = long in omega arith)
fronts (x ∷ xs) ys (a ∷ front) back same long =
    let first : x ≡ a = cc in
    let others : xs ++ ys ≡ front ++ back = cc in
    let rest = fronts xs ys front back others (omega (arith, long)) in
    (rest.0, (λ i. first i ∷ xs) ∙ ap (λ (l : List _). a ∷ l) rest.1)

-- a place inside has something
pub there_is : {X : Type 0} (xs : List X) (k : ℕ) → k < length xs → (x : X) × (slice_get xs k ≡ Some x)
there_is [] k low = absurd (let none : k < 0 = low in omega arith)
there_is (x ∷ xs) zero low = (x, refl)
there_is (x ∷ xs) (suc k) low = there_is xs k (omega (arith, low))

-- the one between others is among all
pub among : {X : Type 0} (xs : List X) (x : X) (ys : List X) → Contains (xs ++ x ∷ ys) x
among xs x ys = Contains-append_right xs (x ∷ ys) x (0, omega arith, refl)

-- an item of the first entries is one of all
pub front_items : (n : ℕ) (entries : List Entry) (item : Item) → Contains (items_in (take n entries)) item → Contains (items_in entries) item
front_items n entries item inside =
    subst (λ (l : List Entry). Contains (items_in l) item) (take-append-drop n entries)
    (subst (λ (l : List Item). Contains l item) (sym (flat_map-append (λ (e : Entry). e.items) (take n entries) (drop n entries))) (Contains-append_left (items_in (take n entries)) (items_in (drop n entries)) item inside))

-- entries behind others stand in turn behind them
pub turn_behind : (position : ℕ) (a b : List Entry) → AreInTurn position (a ++ b) → AreInTurn (position + length a) b
turn_behind position [] b turn = let e : position ≡ position + 0 = omega arith in subst (λ (n : ℕ). AreInTurn n b) e turn
turn_behind position (entry ∷ a) b turn = let e : (position + 1) + length a ≡ position + suc (length a) = omega arith in subst (λ (n : ℕ). AreInTurn n b) e (turn_behind (position + 1) a b turn.1)
