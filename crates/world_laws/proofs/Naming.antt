-- Whom items name.
use Rattle.std.proofs.Common.{◌≡◌, ◌⊎◌, inl, inr, ◌<◌, ℕ, zero, suc, List, [], ◌∷◌, ◌++◌, length, take, map, get_or, Option, Some, None, refl, sym, ap, subst, arith}
use Rattle.std.specs.List.{All, Contains}
use Rattle.std.proofs.lemmas.List.Concat.{flat_map-cons}
use Rattle.std.proofs.lemmas.List.Elements.{All-head, All-tail, All-contains, Contains-append_cases, Contains-append_right}
use Rattle.cell_steps.specs.Depends.{identity_in, depends_on, dependencies}
use Rattle.commit_gate.proofs.Going.{all_front, all_back}
use Rattle.commit_gate.specs.Refused.{Names}
use Rattle.commit_gate.specs.Refused.Names.{by_got, by_trim}
use Rattle.dura_model.specs.Placed.{IsOther}
use Rattle.dura_model.specs.Sends.{IsOfOthers}
use Rattle.dura_value.specs.Dependencies.{named_by}
use Rattle.dura_value.specs.Items.{Identity, Item, Entry, took, got, ran, ended, fired, trim}
use Rattle.log_items.specs.Entries.{items_in}

cons_at : {X : Type 0} (x : X) (xs : List X) (y : X) (k : ℕ) → k < suc (length xs) → get_or (x ∷ xs) k y ≡ y → (x ≡ y) ⊎ Contains xs y
cons_at x xs y zero low is = inl is
cons_at x xs y (suc k) low is = inr (k, omega (arith, low), is)

pub cons_cases : {X : Type 0} (x : X) (xs : List X) (y : X) → Contains (x ∷ xs) y → (x ≡ y) ⊎ Contains xs y
cons_cases x xs y inside = cons_at x xs y inside.0 inside.1 inside.2

pub in_map : {X Y : Type 0} (f : X → Y) (xs : List X) (x : X) → Contains xs x → Contains (map f xs) (f x)
in_map f [] x inside = absurd (let none : inside.0 < 0 = inside.1 in omega arith)
in_map f (y ∷ xs) x inside = elim (cons_cases y xs x inside) [
  | inl same ↦ (0, omega arith, ap f same)
  | inr there ↦ Contains-append_right (f y ∷ []) (map f xs) (f x) (in_map f xs x there)
]

-- what one item names
pub named_one : (item : Item) (e : Identity) → Names item e → Contains (named_by (item ∷ [])) e
named_one item e by_got = (0, omega arith, refl)
named_one item e by_trim = (0, omega arith, refl)

named_both : (item : Item) (items : List Item) → named_by (item ∷ items) ≡ named_by (item ∷ []) ++ named_by items
named_both (took message) items = refl
named_both (got source number message) items = refl
named_both (ran from to stamp) items = refl
named_both (ended id task outcome) items = refl
named_both (fired id task stamp) items = refl
named_both (trim reader number) items = refl

-- what holds of all that items name holds of what each names
pub named_each : (Q : Identity → Type 0) (items : List Item) (item : Item) (e : Identity) → All Q (named_by items) → Contains items item → Names item e → Q e
named_each Q [] item e all inside names = absurd (let none : inside.0 < 0 = inside.1 in omega arith)
named_each Q (first ∷ items) item e all inside names =
    let both : All Q (named_by (first ∷ []) ++ named_by items) = subst (All Q) (named_both first items) all in
    elim (cons_cases first items item inside) [
      | inl same ↦ All-contains Q (named_by (first ∷ [])) e (all_front Q (named_by (first ∷ [])) (named_by items) both) (named_one first e (subst (λ (i : Item). Names i e) (sym same) names))
      | inr there ↦ named_each Q items item e (all_back Q (named_by (first ∷ [])) (named_by items) both) there names
    ]

-- an entry depends on all that its items name
pub depends_named : (Q : Identity → Type 0) (before : Option Identity) (entry : Entry) → All Q (depends_on before entry) → All Q (named_by entry.items)
depends_named Q None entry all = all
depends_named Q (Some one) entry all = All-tail Q one (named_by entry.items) all

pub dependencies_named : (Q : Identity → Type 0) (number : ℕ) (before : Option Identity) (entries : List Entry) (n : ℕ) (item : Item) (e : Identity) → All (All Q) (take n (dependencies number before entries)) → Contains (items_in (take n entries)) item → Names item e → Q e
dependencies_named Q number before entries zero item e all inside names = absurd (let none : inside.0 < 0 = inside.1 in omega arith)
dependencies_named Q number before [] (suc n) item e all inside names = absurd (let none : inside.0 < 0 = inside.1 in omega arith)
dependencies_named Q number before (entry ∷ entries) (suc n) item e all inside names =
    let later = take n (dependencies number (Some (identity_in number entry)) entries) in
    elim (Contains-append_cases entry.items (items_in (take n entries)) item (subst (λ (l : List Item). Contains l item) (flat_map-cons (λ (one : Entry). one.items) entry (take n entries)) inside)) [
      | inl here ↦ named_each Q entry.items item e (depends_named Q before entry (All-head (All Q) (depends_on before entry) later all)) here names
      | inr there ↦ dependencies_named Q number (Some (identity_in number entry)) entries n item e (All-tail (All Q) (depends_on before entry) later all) there names
    ]

-- items of others name others' entries
pub names_other : (count partition : ℕ) (item : Item) (e : Identity) → IsOfOthers count partition item → Names item e → IsOther count partition e.partition
names_other count partition item e is by_got = is
names_other count partition item e is by_trim = is

-- the names of entries are of their partition
pub own_names : (number : ℕ) (entries : List Entry) (e : Identity) → Contains (map (identity_in number) entries) e → e.partition ≡ number
own_names number [] e inside = absurd (let none : inside.0 < 0 = inside.1 in omega arith)
own_names number (entry ∷ entries) e inside = elim (cons_cases (identity_in number entry) (map (identity_in number) entries) e inside) [
  | inl same ↦ ap (λ (i : Identity). i.partition) (sym same)
  | inr there ↦ own_names number entries e there
]
