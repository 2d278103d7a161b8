-- Reading the entries of a list one after another.
use Rattle.std.proofs.Common.{◌≡◌, ℕ, ◌+◌, ◌<◌, ◌≤◌, List, [], ◌∷◌, ◌++◌, length, drop, get_or, Option, Some, None, Result, Ok, Err, refl, ◌∙◌, sym, ap, append_assoc, add-one, arith, length-append}
use Rattle.std.proofs.Math.Seq.{drop-cons}
use Rattle.std.proofs.lemmas.List.{append-nil, drop_all}
use Rattle.serde_json.specs.Data.{Data, item}
use Rattle.serde_json.specs.View.{view, items_view}
use Rattle.serde_json.specs.declared.value.Value.{Value as Json}
use Rattle.move_plan.specs.declared.error.Place.{Place}
use Rattle.move_plan.specs.Plans.{with_first, all_in, at_place}

-- what is still to be read, behind what was
abbrev pub behind : {X : Type 0} → List X → Result (List X) ℕ → Result (List X) ℕ
behind done (Ok xs) = Ok (done ++ xs)
behind done (Err place) = Err (length done + place)

-- the entries from a place on, of which this is the first
items_from : (vs : List Json) (i : ℕ) (v : Json) → i < length vs → v ≡ get_or vs i v → items_view (drop i vs) ≡ item (view v) (items_view (drop (i + 1) vs))
items_from vs i v lt at = rw (add-one, drop-cons vs i v lt, ← at) refl

-- one that was read is behind those before it
behind_first : {X : Type 0} (done : List X) (x : X) (rest : Result (List X) ℕ) → behind (done ++ x ∷ []) rest ≡ behind done (with_first (Some x) rest)
behind_first done x (Ok xs) = rw append_assoc refl
behind_first done x (Err place) = let e : length (done ++ x ∷ []) + place ≡ length done + (place + 1) = omega (arith, length-append done (x ∷ [])) in ap Err e

-- an entry was read
pub goes_on : {X : Type 0} (read : Data → Option X) (whole : Result (List X) ℕ) (done : List X) (vs : List Json) (i : ℕ) (v : Json) (x : X) → i < length vs → v ≡ get_or vs i v → Some x ≡ read (view v) → behind done (all_in read (items_view (drop i vs))) ≡ whole → behind (done ++ x ∷ []) (all_in read (items_view (drop (i + 1) vs))) ≡ whole
goes_on read whole done vs i v x lt at is before = behind_first done x (all_in read (items_view (drop (i + 1) vs))) ∙ sym (rw (items_from vs i v lt at, ← is) refl) ∙ before

-- nothing was read yet
pub begins : {X : Type 0} (r : Result (List X) ℕ) → behind [] r ≡ r
begins (Ok xs) = refl
begins (Err place) = let e : 0 + place ≡ place = omega arith in ap Err e

-- an entry is nothing
pub ends : {X : Type 0} (read : Data → Option X) (list : ℕ → Place) (whole : Result (List X) ℕ) (done : List X) (vs : List Json) (i : ℕ) (v : Json) → i < length vs → v ≡ get_or vs i v → None ≡ read (view v) → behind done (all_in read (items_view (drop i vs))) ≡ whole → at_place list whole ≡ Err (list (length done))
ends read list whole done vs i v lt at is before =
    let here : behind done (all_in read (items_view (drop i vs))) ≡ Err (length done + 0) = rw (items_from vs i v lt at, ← is) refl in
    let e : length done + 0 ≡ length done = omega arith in
    ap (at_place list) (sym before ∙ here ∙ ap Err e)

-- all entries were read
pub all : {X : Type 0} (read : Data → Option X) (list : ℕ → Place) (done : List X) (vs : List Json) (i : ℕ) → length vs ≤ i → behind done (all_in read (items_view (drop i vs))) ≡ all_in read (items_view vs) → at_place list (all_in read (items_view vs)) ≡ Ok done
all read list done vs i past is =
    let here : behind done (all_in read (items_view (drop i vs))) ≡ Ok done = rw (drop_all i vs past) (ap Ok (append-nil done)) in
    ap (at_place list) (sym is ∙ here)
