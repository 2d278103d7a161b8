-- Kept events by their places.
use Rattle.std.proofs.Common.{◌≡◌, ◌∙◌, ◌<◌, ◌+◌, ℕ, suc, List, [], ◌∷◌, ◌++◌, length, get_or, map, Bool, true, false, if◌then◌else◌, Option, Some, None, option_map, drop, refl, ap, sym, subst, arith}
use Rattle.std.proofs.Math.ListN.{set}
use Rattle.std.specs.List.{slice_get}
use Rattle.std.specs.Str.{bytes_eq}
use Rattle.flow_syntax.specs.Machine.{kept_value, without_kept}
use Rattle.flow_syntax.specs.Machine as plain
use Rattle.flow_tasks.specs.declared.raised.Raised.{Raised}
use Rattle.flow_tasks.specs.Kept.{events_in, places_from}
use Rattle.flow_tasks.specs.Numbers.{at_name}
use Rattle.flow_tasks.specs.Views.{raised_of}
use Rattle.dura_value.proofs.Ids.{same_bytes}

abbrev Slots : Type 0
Slots = List (Option Raised)

abbrev plain_in : Slots → List plain.Raised
plain_in slots = map raised_of (events_in slots)

-- ---- an event more

pub events_behind : (slots : Slots) (one : Raised) → events_in (slots ++ Some one ∷ []) ≡ events_in slots ++ one ∷ []
events_behind [] one = refl
events_behind (None ∷ slots) one = events_behind slots one
events_behind (Some first ∷ slots) one = ap (λ (l : List Raised). first ∷ l) (events_behind slots one)

none_behind : (places : List ℕ) → places ≡ places ++ []
none_behind [] = refl
none_behind (place ∷ places) = ap (λ (l : List ℕ). place ∷ l) (none_behind places)

one_later : (n k : ℕ) → suc n + k ≡ n + suc k
one_later n k = omega arith

-- a list behind the places of a name, which its last event brings
abbrev brings : Bool → ℕ → List ℕ
brings b place = if b then place ∷ [] else []

place_behind : (name : List ℕ) (n : ℕ) (slots : Slots) (one : Raised) → places_from name n (slots ++ Some one ∷ []) ≡ places_from name n slots ++ brings (bytes_eq one.name name) (n + length slots)
place_behind name n [] one = by_test (bytes_eq one.name name)
  where
    by_test : (b : Bool) → (if b then n ∷ [] else []) ≡ brings b (n + 0)
    by_test true = ap (λ (m : ℕ). m ∷ []) (omega arith)
    by_test false = refl
place_behind name n (None ∷ slots) one = place_behind name (suc n) slots one ∙ ap (λ (m : ℕ). places_from name (suc n) slots ++ brings (bytes_eq one.name name) m) (one_later n (length slots))
place_behind name n (Some first ∷ slots) one =
    by_test (bytes_eq first.name name)
    (place_behind name (suc n) slots one ∙ ap (λ (m : ℕ). places_from name (suc n) slots ++ brings (bytes_eq one.name name) m) (one_later n (length slots)))
  where
    by_test : (b : Bool) → places_from name (suc n) (slots ++ Some one ∷ []) ≡ places_from name (suc n) slots ++ brings (bytes_eq one.name name) (n + suc (length slots))
        → (if b then n ∷ places_from name (suc n) (slots ++ Some one ∷ []) else places_from name (suc n) (slots ++ Some one ∷ []))
        ≡ (if b then n ∷ places_from name (suc n) slots else places_from name (suc n) slots) ++ brings (bytes_eq one.name name) (n + suc (length slots))
    by_test true rest = ap (λ (l : List ℕ). n ∷ l) rest
    by_test false rest = rest

pub pushed : (slots : Slots) (one : Raised) (old new : List ℕ → List ℕ) → ((name : List ℕ) → old name ≡ places_from name 0 slots) → new ≡ at_name old one.name (old one.name ++ length slots ∷ [])
    → (name : List ℕ) → new name ≡ places_from name 0 (slots ++ Some one ∷ [])
pushed slots one old new before is name =
    ap (λ (f : List ℕ → List ℕ). f name) is
    ∙ by_test (bytes_eq one.name name) refl
    ∙ ap (λ (m : ℕ). places_from name 0 slots ++ brings (bytes_eq one.name name) m) (omega arith)
    ∙ sym (place_behind name 0 slots one)
  where
    by_test : (b : Bool) → bytes_eq one.name name ≡ b → (if b then old one.name ++ length slots ∷ [] else old name) ≡ places_from name 0 slots ++ brings b (length slots)
    by_test true same = ap (λ (l : List ℕ). old l ++ length slots ∷ []) (same_bytes one.name name same) ∙ ap (λ (l : List ℕ). l ++ length slots ∷ []) (before name)
    by_test false same = before name ∙ none_behind (places_from name 0 slots)

-- ---- an event less

-- The first place of a name, counted from one place on: its event is the oldest of the name, and without it the others stay.
abbrev Leads : List ℕ → ℕ → Slots → ℕ → List ℕ → Type 0
Leads name n slots place rest =
    (k : ℕ) × (place ≡ n + k) × (k < length slots)
    × (option_map (λ (one : Raised). one.value) (get_or slots k None) ≡ kept_value name (plain_in slots))
    × (plain_in (set slots k None) ≡ without_kept name (plain_in slots))
    × ((other : List ℕ) → places_from other n (set slots k None) ≡ (if bytes_eq name other then rest else places_from other n slots))

-- the same, where the first event has the name or hasn't
abbrev LeadsBy : Bool → List ℕ → ℕ → Raised → Slots → ℕ → List ℕ → Type 0
LeadsBy b name n one slots place rest =
    (k : ℕ) × (place ≡ n + k) × (k < suc (length slots))
    × (option_map (λ (one : Raised). one.value) (get_or (Some one ∷ slots) k None) ≡ (if b then Some one.value else kept_value name (plain_in slots)))
    × (plain_in (set (Some one ∷ slots) k None) ≡ (if b then plain_in slots else raised_of one ∷ without_kept name (plain_in slots)))
    × ((other : List ℕ) → places_from other n (set (Some one ∷ slots) k None) ≡ (if bytes_eq name other then rest else places_from other n (Some one ∷ slots)))

later : (place n k : ℕ) → place ≡ suc n + k → place ≡ n + suc k
later place n k is = omega arith

leads_by : (b : Bool) (name : List ℕ) (n : ℕ) (one : Raised) (slots : Slots) (place : ℕ) (rest : List ℕ) → bytes_eq one.name name ≡ b
    → (places_from name (suc n) slots ≡ place ∷ rest → Leads name (suc n) slots place rest)
    → (if b then n ∷ places_from name (suc n) slots else places_from name (suc n) slots) ≡ place ∷ rest → LeadsBy b name n one slots place rest
leads_by true name n one slots place rest named before is =
    let here : n ≡ place = cc is in
    let more : places_from name (suc n) slots ≡ rest = cc is in
    (0, omega arith, omega arith, refl, refl, λ other. by_test other (bytes_eq name other) refl more)
  where
    by_test : (other : List ℕ) (c : Bool) → bytes_eq name other ≡ c → places_from name (suc n) slots ≡ rest
        → places_from other (suc n) slots ≡ (if c then rest else places_from other n (Some one ∷ slots))
    by_test other true same more = ap (λ (l : List ℕ). places_from l (suc n) slots) (sym (same_bytes name other same)) ∙ more
    by_test other false same more =
        sym (ap (λ (b : Bool). if b then n ∷ places_from other (suc n) slots else places_from other (suc n) slots) (ap (λ (l : List ℕ). bytes_eq l other) (same_bytes one.name name named) ∙ same))
leads_by false name n one slots place rest named before is =
    let found = before is in
    (suc found.0, later place n found.0 found.1, omega (arith, found.2), found.3, ap (λ (l : List plain.Raised). raised_of one ∷ l) found.4, λ other. by_test other (bytes_eq name other) refl _ (found.5 other))
  where
    by_test : (other : List ℕ) (c : Bool) → bytes_eq name other ≡ c → (left : List ℕ) → left ≡ (if c then rest else places_from other (suc n) slots)
        → (if bytes_eq one.name other then n ∷ left else left) ≡ (if c then rest else places_from other n (Some one ∷ slots))
    by_test other true same left is =
        ap (λ (b : Bool). if b then n ∷ left else left) (ap (bytes_eq one.name) (sym (same_bytes name other same)) ∙ named) ∙ is
    by_test other false same left is = ap (λ (l : List ℕ). if bytes_eq one.name other then n ∷ l else l) is

leads : (name : List ℕ) (n : ℕ) (slots : Slots) (place : ℕ) (rest : List ℕ) → places_from name n slots ≡ place ∷ rest → Leads name n slots place rest
leads name n [] place rest is = absurd (cc is)
leads name n (None ∷ slots) place rest is =
    let found = leads name (suc n) slots place rest is in
    (suc found.0, later place n found.0 found.1, omega (arith, found.2), found.3, found.4, found.5)
leads name n (Some one ∷ slots) place rest is =
    leads_by (bytes_eq one.name name) name n one slots place rest refl (λ e. leads name (suc n) slots place rest e) is

-- ---- what is taken

-- the oldest event of a name is taken from its place
abbrev pub Takes : List ℕ → Slots → ℕ → (List ℕ → List ℕ) → Type 0
Takes name slots place places =
    (place < length slots)
    × (option_map (λ (one : Raised). one.value) (get_or slots place None) ≡ kept_value name (plain_in slots))
    × (plain_in (set slots place None) ≡ without_kept name (plain_in slots))
    × ((other : List ℕ) → at_name places name (drop 1 (places name)) other ≡ places_from other 0 (set slots place None))

pub takes : (name : List ℕ) (slots : Slots) (place : ℕ) (places : List ℕ → List ℕ) → ((other : List ℕ) → places other ≡ places_from other 0 slots) → Some place ≡ slice_get (places name) 0 → Takes name slots place places
takes name slots place places are first =
    let found = leads name 0 slots place (drop 1 (places name)) (sym (are name) ∙ ahead (places name) first) in
    let here : found.0 ≡ place = (let is : place ≡ 0 + found.0 = found.1 in omega (arith, is)) in
    let At : ℕ → Type 0 = λ k. (k < length slots)
    × (option_map (λ (one : Raised). one.value) (get_or slots k None) ≡ kept_value name (plain_in slots))
    × (plain_in (set slots k None) ≡ without_kept name (plain_in slots))
    × ((other : List ℕ) → at_name places name (drop 1 (places name)) other ≡ places_from other 0 (set slots k None)) in
    subst At here (found.2, found.3, found.4, λ other. ap (λ (l : List ℕ). if bytes_eq name other then drop 1 (places name) else l) (are other) ∙ sym (found.5 other))
  where
    ahead : (list : List ℕ) → Some place ≡ slice_get list 0 → list ≡ place ∷ drop 1 list
    ahead [] first = absurd (cc first)
    ahead (other ∷ rest) first = ap (λ (m : ℕ). m ∷ rest) (cc first)

none_named : (name : List ℕ) (n : ℕ) (slots : Slots) → places_from name n slots ≡ [] → (kept_value name (plain_in slots) ≡ None) × (without_kept name (plain_in slots) ≡ plain_in slots)
none_named name n [] is = (refl, refl)
none_named name n (None ∷ slots) is = none_named name (suc n) slots is
none_named name n (Some one ∷ slots) is = by_test (bytes_eq one.name name) (λ e. none_named name (suc n) slots e) is
  where
    by_test : (b : Bool) → (places_from name (suc n) slots ≡ [] → (kept_value name (plain_in slots) ≡ None) × (without_kept name (plain_in slots) ≡ plain_in slots))
        → (if b then n ∷ places_from name (suc n) slots else places_from name (suc n) slots) ≡ []
        → ((if b then Some one.value else kept_value name (plain_in slots)) ≡ None) × ((if b then plain_in slots else raised_of one ∷ without_kept name (plain_in slots)) ≡ raised_of one ∷ plain_in slots)
    by_test true before is = absurd (cc is)
    by_test false before is = let nothing = before is in (nothing.0, ap (λ (l : List plain.Raised). raised_of one ∷ l) nothing.1)

pub none_there : (name : List ℕ) (slots : Slots) (places : List ℕ → List ℕ) → ((other : List ℕ) → places other ≡ places_from other 0 slots) → None ≡ slice_get (places name) 0
    → (kept_value name (plain_in slots) ≡ None) × (without_kept name (plain_in slots) ≡ plain_in slots) × ((other : List ℕ) → at_name places name (drop 1 (places name)) other ≡ places_from other 0 slots)
none_there name slots places are none =
    let nothing = none_named name 0 slots (sym (are name) ∙ empty (places name) none) in
    (nothing.0, nothing.1, λ other. by_test other (bytes_eq name other) refl (empty (places name) none) ∙ are other)
  where
    empty : (list : List ℕ) → None ≡ slice_get list 0 → list ≡ []
    empty [] none = refl
    empty (other ∷ rest) none = absurd (cc none)

    by_test : (other : List ℕ) (b : Bool) → bytes_eq name other ≡ b → places name ≡ [] → (if b then drop 1 (places name) else places other) ≡ places other
    by_test other true same is = ap (drop 1) is ∙ sym is ∙ ap places (same_bytes name other same)
    by_test other false same is = refl
